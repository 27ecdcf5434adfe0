use Rattle.std.proofs.Common.{◌≡◌, ◌∙◌, List, ap, arith, refl, subst, sym}
use Rattle.std.proofs.lemmas.List.{with_items_is}
use Rattle.std.proofs.lemmas.Option.{IfSome_then}
use Rattle.std.proofs.lemmas.Result.{err_from_is_err_and}
use Rattle.std.specs.List.{AllByRecursion}
use Rattle.std.specs.Prelude.{flat_map, map}
use Rattle.mesa_open_files.specs.mesa_columns.declared.lifting.Lift.{Lift}
use Rattle.mesa_open_files.specs.mesa_columns.declared.rows.Row.{Row}
use Rattle.mesa_open_files.specs.mesa_fold.Folded.{rows_of}
use Rattle.mesa_filter.specs.Filter.{filtered}
use Rattle.mesa_delta.specs.declared.error.FileError.TheVariants as file_error
use Rattle.mesa_merge.specs.Inputs.{AreTold, Known, knowns_of}
use Rattle.mesa_merge.proofs.Causing.{cause_other, cause_quiet}
use Rattle.mesa_answer.specs.Gathered.{wanted_of}
use Rattle.mesa_group_blocks.specs.declared.beside.Plan.{Plan}
use Rattle.mesa_group_blocks.specs.declared.jobs.Job.{Job}
use Rattle.mesa_group_blocks.specs.Moved.{inputs_in}
use Rattle.mesa_group_blocks.specs.Jobs.{AreRun, IsJob, pieces_in}
use Rattle.mesa_group_blocks.specs.Pieces.{AreLiftsOf, rows_of_pieces}
use Rattle.mesa_group_blocks.specs.Ungrouped.{parts_ungrouped}
use Rattle.mesa_group_blocks.proofs.Blocks.{some_here}
use Rattle.mesa_group_blocks.proofs.Moved.{moved_none}
use Rattle.mesa_group_blocks.proofs.JobSteps.{pieces_same}
use Rattle.mesa_group_blocks.proofs.beside.grouped_beside.Goals as goal

pub returns-in_err-plan-clause-moved : goal.returns-in_err-plan-clause-moved
returns-in_err-plan-clause-moved g c = moved_none g.R.FileReader.bytes g.R.FileReader.size c.args.files.now

pub returns-in_err-plan-clause-cause : goal.returns-in_err-plan-clause-cause
returns-in_err-plan-clause-cause g c =
    let p = err_from_is_err_and c.from_residual.result c.from_residual.ensures.1 in
    rw (p.1, p.2) (cause_other _ _ file_error.Memory refl (λ read. cc))

pub returns-in_default-clause-moved : goal.returns-in_default-clause-moved
returns-in_default-clause-moved g c = moved_none g.R.FileReader.bytes g.R.FileReader.size c.args.files.now

pub returns-in_default-clause-cause : goal.returns-in_default-clause-cause
returns-in_default-clause-cause g c = cause_quiet _ _ _ refl

pub run_jobs-requires-clause-lifts : goal.run_jobs-requires-clause-lifts
run_jobs-requires-clause-lifts g c = λ κs below.
    let ks : List Known = knowns_of g.R.FileReader.bytes (inputs_in c.args.files.now) in
    subst (λ (ls : List Lift). AreLiftsOf ks ls) (sym c.deref.ensures.value)
    (some_here (λ (plan : Plan). AreLiftsOf ks plan.lifts.items) c.in_ok-plan.field-0 c.in-Some.plan c.in-Some.is c.in_ok-plan.ensures.lifts)

pub run_jobs-requires-clause-jobs : goal.run_jobs-requires-clause-jobs
run_jobs-requires-clause-jobs g c = λ κs below.
    let w = wanted_of c.args.groups.now in
    let f = c.args.filter.now in
    let ks : List Known = knowns_of g.R.FileReader.bytes (inputs_in c.args.files.now) in
    (w, subst (λ (js : List Job). AreRun ks w f js) (sym c.deref_mut.ensures.value) (some_here (λ (plan : Plan). AreRun ks w f plan.jobs.items) c.in_ok-plan.field-0 c.in-Some.plan c.in-Some.is c.in_ok-plan.ensures.run))

pub joined-requires : goal.joined-requires
joined-requires g c =
    let w = wanted_of c.args.groups.now in
    let f = c.args.filter.now in
    let ks : List Known = knowns_of g.R.FileReader.bytes (inputs_in c.args.files.now) in
    let run = subst (λ (js : List Job). AreRun ks w f js) (sym c.deref_mut.ensures.value) (some_here (λ (plan : Plan). AreRun ks w f plan.jobs.items) c.in_ok-plan.field-0 c.in-Some.plan c.in-Some.is c.in_ok-plan.ensures.run) in
    let done = c.in_ok-run_jobs.ensures.jobs c.if-not-branch.false w run in
    (ks, w, f, subst (λ (js : List Job). AllByRecursion (IsJob ks w f) js) (sym (with_items_is c.in-Some.plan.jobs c.run_jobs.new.jobs (omega arith))) done.each)

pub returns-clause-put : goal.returns-clause-put
returns-clause-put g c =
    let bytes = g.R.FileReader.bytes in
    let w = wanted_of c.args.groups.now in
    let f = c.args.filter.now in
    let ks : List Known = knowns_of bytes (inputs_in c.args.files.now) in
    let run = subst (λ (js : List Job). AreRun ks w f js) (sym c.deref_mut.ensures.value) (some_here (λ (plan : Plan). AreRun ks w f plan.jobs.items) c.in_ok-plan.field-0 c.in-Some.plan c.in-Some.is c.in_ok-plan.ensures.run) in
    let done = c.in_ok-run_jobs.ensures.jobs c.if-not-branch.false w run in
    let now = with_items_is c.in-Some.plan.jobs c.run_jobs.new.jobs (omega arith) in
    let same = pieces_same c.in-Some.plan.jobs.items c.run_jobs.new.jobs (c.run_jobs.ensures.pieces ∙ ap (map pieces_in) c.deref_mut.ensures.value) in
    IfSome_then c.joined.result c.joined.ensures (λ all h.
    let r = h ks w f (subst (λ (js : List Job). AllByRecursion (IsJob ks w f) js) (sym now) done.each) in (
      r.0,
      r.1,
      λ contents told.
          r.3 contents told
          ∙ ap (λ (js : List Job). rows_of_pieces f ks contents (flat_map pieces_in js)) now
          ∙ ap (rows_of_pieces f ks contents) same
          ∙ some_here (λ (plan : Plan). (contents : List (List Row)) → AreTold ks contents → rows_of_pieces f ks contents (flat_map pieces_in plan.jobs.items) ≡ filtered w.schema f.terms (rows_of (parts_ungrouped c.args.view c.args.files.now contents)))
          c.in_ok-plan.field-0 c.in-Some.plan c.in-Some.is c.in_ok-plan.ensures.rows contents told,
    ))

pub returns-clause-wanted : goal.returns-clause-wanted
returns-clause-wanted g c =
    let bytes = g.R.FileReader.bytes in
    let w = wanted_of c.args.groups.now in
    let f = c.args.filter.now in
    let ks : List Known = knowns_of bytes (inputs_in c.args.files.now) in
    let run = subst (λ (js : List Job). AreRun ks w f js) (sym c.deref_mut.ensures.value) (some_here (λ (plan : Plan). AreRun ks w f plan.jobs.items) c.in_ok-plan.field-0 c.in-Some.plan c.in-Some.is c.in_ok-plan.ensures.run) in
    let done = c.in_ok-run_jobs.ensures.jobs c.if-not-branch.false w run in
    let now = with_items_is c.in-Some.plan.jobs c.run_jobs.new.jobs (omega arith) in
    IfSome_then c.joined.result c.joined.ensures (λ all h. (h ks w f (subst (λ (js : List Job). AllByRecursion (IsJob ks w f) js) (sym now) done.each)).2)

pub returns-in_err-run_jobs-clause-cause : goal.returns-in_err-run_jobs-clause-cause
returns-in_err-run_jobs-clause-cause g c =
    let p = err_from_is_err_and c.from_residual-in_err-run_jobs.result c.from_residual-in_err-run_jobs.ensures.1 in
    let cause = c.in_err-run_jobs.ensures.cause in
    rw (p.1, p.2) (record { later = cause.later; failed = cause.failed; quiet = tt; other = cause.other })

pub returns-then-not-branch-clause-cause : goal.returns-then-not-branch-clause-cause
returns-then-not-branch-clause-cause g c = cause_quiet _ _ _ c.in_ok-run_jobs.ensures.cause.quiet

pub returns-clause-cause : goal.returns-clause-cause
returns-clause-cause g c = cause_quiet _ _ _ c.in_ok-run_jobs.ensures.cause.quiet
