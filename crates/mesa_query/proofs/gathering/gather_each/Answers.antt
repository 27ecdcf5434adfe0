use Rattle.std.proofs.Common.{◌≡◌, ◌∙◌, List, ap, inl, inr, subst, sym}
use Rattle.std.proofs.lemmas.Result.{err_from_is_err_and, on_ok_weaker}
use Rattle.mesa_group_blocks.specs.mesa_columns.declared.rows.Row.{Row}
use Rattle.mesa_group_blocks.specs.mesa_fold.Folded.{rows_of}
use Rattle.mesa_filter.specs.Filter.{filtered}
use Rattle.mesa_group_blocks.specs.mesa_delta.declared.error.FileError.TheVariants as file_error
use Rattle.mesa_group_blocks.specs.mesa_merge.Faults.{HaveFaultCause, faults_of}
use Rattle.mesa_group_blocks.specs.mesa_merge.Inputs.{AreTold, Known, knowns_of}
use Rattle.mesa_group_blocks.proofs.mesa_merge.Causing.{cause_quiet}
use Rattle.mesa_group_blocks.specs.mesa_answer.Answering.{KeepsSums}
use Rattle.mesa_group_blocks.specs.mesa_answer.Gathered.{HasPut, wanted_of}
use Rattle.mesa_group_blocks.specs.mesa_answer.declared.groups.Groups.{Groups}
use Rattle.mesa_group_blocks.proofs.mesa_answer.Results.{if_err}
use Rattle.mesa_group_blocks.specs.Moved.{inputs_in}
use Rattle.mesa_group_blocks.specs.Ungrouped.{parts_ungrouped}
use Rattle.mesa_group_blocks.proofs.Blocks.{some_here}
use Rattle.mesa_group_blocks.proofs.Moved.{moved_known}
use Rattle.mesa_query.proofs.Files.{moved_owns, moved_pinned}
use Rattle.mesa_query.proofs.Holding.{damage_moved, parts_moved, sum_before}
use Rattle.mesa_query.proofs.gathering.gather_each.Goals as goal

pub returns-in_err-found-clause-pinned : goal.returns-in_err-found-clause-pinned
returns-in_err-found-clause-pinned g c =
    moved_pinned g.R.FileReader.bytes g.R.FileReader.size (wanted_of c.args.groups.now).schema c.args.view c.args.files.now c.gathered_beside.new.files c.gathered_beside.ensures.moved c.requires.files

pub returns-in_err-found-clause-known : goal.returns-in_err-found-clause-known
returns-in_err-found-clause-known g c = moved_known g.R.FileReader.bytes g.R.FileReader.size c.args.files.now c.gathered_beside.new.files c.gathered_beside.ensures.moved

pub returns-in_err-found-clause-own : goal.returns-in_err-found-clause-own
returns-in_err-found-clause-own g c = moved_owns g.R.FileReader.bytes g.R.FileReader.size c.args.files.now c.gathered_beside.new.files c.gathered_beside.ensures.moved

pub returns-in_err-found-clause-cause : goal.returns-in_err-found-clause-cause
returns-in_err-found-clause-cause g c =
    let p = err_from_is_err_and c.from_residual.result c.from_residual.ensures.1 in
    let cause = c.in_err-found.ensures.cause in
    rw (p.1, p.2) (record { later = cause.later; failed = cause.failed; quiet = tt; other = cause.other })

pub returns-in_err-found-clause-damaged : goal.returns-in_err-found-clause-damaged
returns-in_err-found-clause-damaged g c =
    let p = err_from_is_err_and c.from_residual.result c.from_residual.ensures.1 in
    rw (p.1, p.2) (λ d e. absurd (let both = sym c.in_err-found.ensures.fault ∙ e in cc))

pub returns-in_err-found-clause-never : goal.returns-in_err-found-clause-never
returns-in_err-found-clause-never g c =
    let p = err_from_is_err_and c.from_residual.result c.from_residual.ensures.1 in
    rw (p.1, p.2) (λ d e. absurd (let both = sym c.in_err-found.ensures.fault ∙ e in cc))

pub returns-in-Some-clause-put : goal.returns-in-Some-clause-put
returns-in-Some-clause-put g c =
    let s = (wanted_of c.args.groups.now).schema in
    some_here (λ (all : Groups). (given : List Row) × HasPut all given
    × ((contents : List (List Row)) → AreTold (knowns_of g.R.FileReader.bytes (inputs_in c.args.files.now)) contents → given ≡ filtered s c.args.filter.now.terms (rows_of (parts_ungrouped c.args.view c.args.files.now contents))))
    c.in_ok-found.found c.in-Some.all c.in-Some.is c.in_ok-found.ensures.put

pub returns-in-Some-clause-wanted : goal.returns-in-Some-clause-wanted
returns-in-Some-clause-wanted g c = some_here (λ (all : Groups). wanted_of all ≡ wanted_of c.args.groups.now) c.in_ok-found.found c.in-Some.all c.in-Some.is c.in_ok-found.ensures.wanted

pub returns-in-Some-clause-pinned : goal.returns-in-Some-clause-pinned
returns-in-Some-clause-pinned g c =
    moved_pinned g.R.FileReader.bytes g.R.FileReader.size (wanted_of c.args.groups.now).schema c.args.view c.args.files.now c.gathered_beside.new.files c.gathered_beside.ensures.moved c.requires.files

pub returns-in-Some-clause-known : goal.returns-in-Some-clause-known
returns-in-Some-clause-known g c = moved_known g.R.FileReader.bytes g.R.FileReader.size c.args.files.now c.gathered_beside.new.files c.gathered_beside.ensures.moved

pub returns-in-Some-clause-own : goal.returns-in-Some-clause-own
returns-in-Some-clause-own g c = moved_owns g.R.FileReader.bytes g.R.FileReader.size c.args.files.now c.gathered_beside.new.files c.gathered_beside.ensures.moved

pub returns-in-Some-clause-cause : goal.returns-in-Some-clause-cause
returns-in-Some-clause-cause g c = cause_quiet _ _ _ c.in_ok-found.ensures.cause.quiet

pub gather_all-requires-clause-files : goal.gather_all-requires-clause-files
gather_all-requires-clause-files g c = λ κs below.
    moved_pinned g.R.FileReader.bytes g.R.FileReader.size (wanted_of c.args.groups.now).schema c.args.view c.args.files.now c.gathered_beside.new.files c.gathered_beside.ensures.moved c.requires.files

pub returns-clause-put : goal.returns-clause-put
returns-clause-put g c =
    let bytes = g.R.FileReader.bytes in
    let size = g.R.FileReader.size in
    let start = c.args.files.now in
    let mid = c.gathered_beside.new.files in
    let moved = c.gathered_beside.ensures.moved in
    let s = (wanted_of c.args.groups.now).schema in
    on_ok_weaker c.gather_all.result (λ put. (
      put.0,
      put.1,
      λ contents told.
          put.2 contents (subst (λ (ks : List Known). AreTold ks contents) (sym (moved_known bytes size start mid moved)) told)
          ∙ ap (λ (parts : List (List Row)). filtered s c.args.filter.now.terms (rows_of parts)) (parts_moved bytes size c.args.view start mid contents moved),
    )) c.gather_all.ensures.put

pub returns-clause-known : goal.returns-clause-known
returns-clause-known g c = c.gather_all.ensures.known ∙ moved_known g.R.FileReader.bytes g.R.FileReader.size c.args.files.now c.gathered_beside.new.files c.gathered_beside.ensures.moved

pub returns-clause-own : goal.returns-clause-own
returns-clause-own g c = c.gather_all.ensures.own ∙ moved_owns g.R.FileReader.bytes g.R.FileReader.size c.args.files.now c.gathered_beside.new.files c.gathered_beside.ensures.moved

pub returns-clause-cause : goal.returns-clause-cause
returns-clause-cause g c =
    subst (λ before. HaveFaultCause (λ e. e ≡ file_error.Read) before (faults_of g.R.FileReader.faults (inputs_in c.gather_all.new.files)) c.gather_all.result) c.in_ok-found.ensures.cause.quiet c.gather_all.ensures.cause

pub returns-clause-damaged : goal.returns-clause-damaged
returns-clause-damaged g c =
    let bytes = g.R.FileReader.bytes in
    let size = g.R.FileReader.size in
    let start = c.args.files.now in
    let mid = c.gathered_beside.new.files in
    let after = c.gather_all.new.files in
    let moved = c.gathered_beside.ensures.moved in
    let w = wanted_of c.args.groups.now in
    let terms = c.args.filter.now.terms in
    let view = c.args.view in
    if_err c.gather_all.result _ _ (λ e damaged d is. elim (damaged d is) [
      | inl here ↦ inl (damage_moved bytes size d start mid after moved here)
      | inr sum ↦ inr (sum_before bytes size w terms view start mid d moved sum)
    ]) c.gather_all.ensures.damaged

pub returns-clause-never : goal.returns-clause-never
returns-clause-never g c =
    let bytes = g.R.FileReader.bytes in
    let size = g.R.FileReader.size in
    let start = c.args.files.now in
    let mid = c.gathered_beside.new.files in
    let moved = c.gathered_beside.ensures.moved in
    let s = (wanted_of c.args.groups.now).schema in
    if_err c.gather_all.result _ _ (λ e never d is contents told keeps.
    never d is contents (subst (λ (ks : List Known). AreTold ks contents) (sym (moved_known bytes size start mid moved)) told)
    (subst (λ (parts : List (List Row)). KeepsSums s (filtered s c.args.filter.now.terms (rows_of parts))) (sym (parts_moved bytes size c.args.view start mid contents moved)) keeps)) c.gather_all.ensures.never
