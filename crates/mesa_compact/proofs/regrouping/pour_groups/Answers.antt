use Rattle.std.proofs.Common.{◌≡◌, ◌++◌, ◌∷◌, [], inl, inr, List, refl, sym, ◌∙◌, ap, subst}
use Rattle.std.specs.Prelude.{None}
use Rattle.mesa_open_files.specs.mesa_columns.declared.rows.Row.{Row}
use Rattle.mesa_open_files.specs.mesa_columns.Columns.{Columns, aggs_of}
use Rattle.mesa_open_files.specs.mesa_fold.Folded.{folded}
use Rattle.mesa_open_files.specs.mesa_columns.Lent.{lent}
use Rattle.mesa_open_files.specs.mesa_columns.Rows.{IsRowOf}
use Rattle.mesa_delta.specs.declared.error.FileError.TheVariants.{Damaged}
use Rattle.mesa_answer.specs.Answering.{KeepsSums}
use Rattle.mesa_answer.specs.Gathered.{HasPut, wanted_of}
use Rattle.mesa_answer.specs.Gathering.{Wanted}
use Rattle.mesa_merge.specs.Inputs.{knowns_of, lifted_parts}
use Rattle.mesa_merge.specs.Merged.{IsGoing, failed_of, inputs_of}
use Rattle.mesa_merge.specs.Sums.{sum_damage}
use Rattle.mesa_merge.proofs.Ending.{AreFronts, givens_fronts}
use Rattle.mesa_merge.proofs.Lasting.{last_there}
use Rattle.mesa_compact.specs.Bounded.{AreBounded}
use Rattle.mesa_compact.specs.Damaged.{GroupLeaves}
use Rattle.mesa_compact.proofs.Causing.{caused_file, caused_memory, caused_ok, caused_unread}
use Rattle.mesa_compact.proofs.Following.{folded_bound}
use Rattle.mesa_compact.proofs.Whole.{told_sums}
use Rattle.mesa_compact.proofs.Poured.{goes_on, if_none_from, merged_formed}
use Rattle.mesa_compact.proofs.Totals.{total_of}
use Rattle.mesa_compact.proofs.regrouping.pour_groups.Goals as goal

pub next-requires-after_bounds : goal.next-requires-after_bounds
next-requires-after_bounds g c = λ _ _.
    let start = c.requires.pouring in
    let now = c.rows.invariant.poured start.0 start.1 start.2 in
    let all : IsGoing g.R.FileReader.bytes c.rows.merge = (None, None, (wanted_of c.args.groups.now).schema, now.0, now.1) in
    if_none_from (failed_of c.rows.merge) (IsGoing g.R.FileReader.bytes c.rows.merge) all

pub last_file-newest-requires-after_bounds : goal.last_file-newest-requires-after_bounds
last_file-newest-requires-after_bounds g c = λ _ _.
    let start = c.requires.pouring in
    let s = (wanted_of c.args.groups.now).schema in
    let now = c.rows.invariant.poured start.0 start.1 start.2 in
    let next = goes_on g.R.FileReader.bytes _ _ _ _ _ _ (c.in-Ok.ensures.next now.1.going) c.if-not-more.false c.row-row.ensures s now.0 now.1 in
    last_there g.R.FileReader.bytes s c.next.new.self next.0 _ _ next.1 next.4

pub put_row-requires-clause-gathering : goal.put_row-requires-clause-gathering
put_row-requires-clause-gathering g c =
    let start = c.requires.pouring in
    let now = c.rows.invariant.poured start.0 start.1 start.2 in
    (folded (aggs_of (wanted_of c.args.groups.now).schema) now.0, now.2)

pub put_row-requires-clause-form : goal.put_row-requires-clause-form
put_row-requires-clause-form g c =
    let start = c.requires.pouring in
    let inv = c.rows.invariant in
    let s = (wanted_of c.args.groups.now).schema in
    let now = inv.poured start.0 start.1 start.2 in
    let next = goes_on g.R.FileReader.bytes _ _ _ _ _ _ (c.in-Ok.ensures.next now.1.going) c.if-not-more.false c.row-row.ensures s now.0 now.1 in
    subst (λ (w : Wanted). IsRowOf w.schema (lent c.row-row.result)) (sym inv.wanted) next.3

pub rows-preserved : goal.rows-preserved
rows-preserved g c =
    let bytes = g.R.FileReader.bytes in
    let inv = c.rows.invariant in
    let start = c.requires.pouring in
    let first = inv.poured start.0 start.1 start.2 in
    let answer = c.in-Ok.ensures.next first.1.going in
    let some = goes_on bytes _ _ _ _ _ _ answer c.if-not-more.false c.row-row.ensures in
    record {
      known = answer.known ∙ inv.known;
      inputs = λ all. answer.inputs (inv.inputs all);
      reads = answer.cause.quiet ∙ inv.reads;
      wanted = c.in-Ok-put_row.ensures.wanted ∙ inv.wanted;
      poured = λ givens h put.
          let s = (wanted_of c.args.groups.now).schema in
          let now = inv.poured givens h put in
          let next = some s now.0 now.1 in
          let more : HasPut c.put_row.new.groups (folded (aggs_of s) now.0 ++ lent c.row-row.result ∷ []) = c.in-Ok-put_row.ensures.put (folded (aggs_of s) now.0) now.2 in
          (next.0, next.1, subst (HasPut c.put_row.new.groups) (sym next.2) more);
    }

-- ---- a failed read, or damage, of an input

pub returns-in-Err-clause-accepts : goal.returns-in-Err-clause-accepts
returns-in-Err-clause-accepts g c = λ d e b.
    let inv = c.rows.invariant in
    let start = c.requires.pouring in
    let s = (wanted_of c.args.groups.now).schema in
    let now = inv.poured start.0 start.1 start.2 in
    let is : c.in-Err.error ≡ Damaged d = cc in
    let b2 : AreBounded s (knowns_of g.R.FileReader.bytes (inputs_of c.rows.merge)) = subst (AreBounded s) (sym inv.known) b in
    (c.in-Err.ensures.next now.1.going).accepts d is s now.0 now.1 b2.contents b2.told b2.bound

pub returns-in-Err-clause-causes : goal.returns-in-Err-clause-causes
returns-in-Err-clause-causes g c = λ drafts.
    let start = c.requires.pouring in
    let inv = c.rows.invariant in
    let now = inv.poured start.0 start.1 start.2 in
    let answer = c.in-Err.ensures.next now.1.going in
    caused_file _ _ _ _ _ _ c.in-Err.error refl inv.reads answer.cause (λ d is. inl (answer.damaged d is))

pub returns-in-Err-clause-known : goal.returns-in-Err-clause-known
returns-in-Err-clause-known g c =
    let start = c.requires.pouring in
    let inv = c.rows.invariant in
    (c.in-Err.ensures.next (inv.poured start.0 start.1 start.2).1.going).known ∙ inv.known

pub returns-in-Err-clause-inputs : goal.returns-in-Err-clause-inputs
returns-in-Err-clause-inputs g c = λ all.
    let start = c.requires.pouring in
    let inv = c.rows.invariant in
    (c.in-Err.ensures.next (inv.poured start.0 start.1 start.2).1.going).inputs (inv.inputs all)

-- ---- the end

pub returns-then-not-more-clause-put : goal.returns-then-not-more-clause-put
returns-then-not-more-clause-put g c = λ givens h put.
    let inv = c.rows.invariant in
    let s = (wanted_of c.args.groups.now).schema in
    let now = inv.poured givens h put in
    let none = rw c.if-not-more.true at (c.in-Ok.ensures.next now.1.going).none in
    let all = none s now.0 now.1 in
    (now.0, all.1, now.2, told_sums c.folds_totals.ensures s _ now.0 (merged_formed g.R.FileReader.bytes s c.rows.merge now.0 now.1) all.1)

pub returns-then-not-more-clause-causes : goal.returns-then-not-more-clause-causes
returns-then-not-more-clause-causes g c = λ drafts.
    let start = c.requires.pouring in
    let inv = c.rows.invariant in
    let now = inv.poured start.0 start.1 start.2 in
    caused_ok _ _ _ _ _ _ refl ((c.in-Ok.ensures.next now.1.going).cause.quiet ∙ inv.reads)

pub returns-then-not-more-clause-known : goal.returns-then-not-more-clause-known
returns-then-not-more-clause-known g c =
    let start = c.requires.pouring in
    let inv = c.rows.invariant in
    (c.in-Ok.ensures.next (inv.poured start.0 start.1 start.2).1.going).known ∙ inv.known

pub returns-then-not-more-clause-inputs : goal.returns-then-not-more-clause-inputs
returns-then-not-more-clause-inputs g c = λ all.
    let start = c.requires.pouring in
    let inv = c.rows.invariant in
    (c.in-Ok.ensures.next (inv.poured start.0 start.1 start.2).1.going).inputs (inv.inputs all)

-- ---- a sum of a group that leaves its type

pub returns-in-Err-put_row-clause-accepts : goal.returns-in-Err-put_row-clause-accepts
returns-in-Err-put_row-clause-accepts g c = λ d e b.
    let bytes = g.R.FileReader.bytes in
    let inv = c.rows.invariant in
    let start = c.requires.pouring in
    let s : Columns = (wanted_of c.args.groups.now).schema in
    let row = lent c.row-row.result in
    let now = inv.poured start.0 start.1 start.2 in
    let answer = c.in-Ok.ensures.next now.1.going in
    let next = goes_on bytes _ _ _ _ _ _ answer c.if-not-more.false c.row-row.ensures s now.0 now.1 in
    let b2 : AreBounded s (knowns_of bytes (inputs_of c.next.new.self)) = subst (AreBounded s) (sym (answer.known ∙ inv.known)) b in
    let parts : List (List Row) = lifted_parts (knowns_of bytes (inputs_of c.next.new.self)) b2.contents in
    let fronts : AreFronts None next.0 parts = givens_fronts bytes None (inputs_of c.next.new.self) _ next.0 b2.contents next.1.given b2.told in
    let all : KeepsSums s (folded (aggs_of s) now.0 ++ row ∷ []) =
    subst (KeepsSums s) next.2 (folded_bound c.folds_totals.ensures s None next.0 parts (merged_formed bytes s c.next.new.self next.0 next.1) fronts b2.bound) in
    let is : c.in-Err-put_row.unfit ≡ Damaged d = cc in
    c.in-Err-put_row.ensures.never d is (folded (aggs_of s) now.0) now.2 (subst (λ (w : Wanted). KeepsSums w.schema (folded (aggs_of s) now.0 ++ row ∷ [])) (sym inv.wanted) all)

pub returns-in-Err-put_row-clause-causes : goal.returns-in-Err-put_row-clause-causes
returns-in-Err-put_row-clause-causes g c = λ drafts.
    let start = c.requires.pouring in
    let inv = c.rows.invariant in
    let now = inv.poured start.0 start.1 start.2 in
    let s : Columns = (wanted_of c.args.groups.now).schema in
    let row = lent c.row-row.result in
    let next = goes_on g.R.FileReader.bytes _ _ _ _ _ _ (c.in-Ok.ensures.next now.1.going) c.if-not-more.false c.row-row.ensures s now.0 now.1 in
    let file = c.last_file-newest.ensures in
    caused_unread _ _ _ _ _ c.in-Err-put_row.unfit refl ((c.in-Ok.ensures.next now.1.going).cause.quiet ∙ inv.reads) c.in-Err-put_row.ensures.unread
    (λ d is.
    let really : GroupLeaves s (folded (aggs_of s) now.0) row = record {
      groups = wanted_of c.rows.groups;
      schema = ap (λ (w : Wanted). w.schema) inv.wanted;
      key = _;
      leaves = c.in-Err-put_row.ensures.leaves d is (folded (aggs_of s) now.0) now.2;
    } in
    inr (total_of g.R.FileReader.bytes s c.next.new.self next.0 (folded (aggs_of s) now.0) row file.0 d next.1 next.2 next.4 (inr really)
    (λ all. c.in-Err-put_row.ensures.never d is (folded (aggs_of s) now.0) now.2 (subst (λ (w : Wanted). KeepsSums w.schema (folded (aggs_of s) now.0 ++ row ∷ [])) (sym inv.wanted) all)) file.1 (c.in-Err-put_row.ensures.damaged d is ∙ ap sum_damage file.2)))

pub returns-in-Err-put_row-clause-known : goal.returns-in-Err-put_row-clause-known
returns-in-Err-put_row-clause-known g c =
    let start = c.requires.pouring in
    let inv = c.rows.invariant in
    (c.in-Ok.ensures.next (inv.poured start.0 start.1 start.2).1.going).known ∙ inv.known

pub returns-in-Err-put_row-clause-inputs : goal.returns-in-Err-put_row-clause-inputs
returns-in-Err-put_row-clause-inputs g c = λ all.
    let start = c.requires.pouring in
    let inv = c.rows.invariant in
    (c.in-Ok.ensures.next (inv.poured start.0 start.1 start.2).1.going).inputs (inv.inputs all)

-- ---- too many rows

pub returns-clause-causes : goal.returns-clause-causes
returns-clause-causes g c = λ drafts. caused_memory _ _ _ _ _ refl c.rows.invariant.reads
