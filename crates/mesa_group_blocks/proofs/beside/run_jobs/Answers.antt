use Rattle.std.proofs.Common.{◌∙◌, refl, subst, sym, List}
use Rattle.std.proofs.lemmas.Result.{err_from_is_err_and}
use Rattle.std.specs.Prelude.{Err}
use Rattle.mesa_merge.specs.Inputs.{Known}
use Rattle.mesa_merge.proofs.Causing.{cause_on, cause_quiet}
use Rattle.mesa_group_blocks.specs.Jobs.{AreRun}
use Rattle.mesa_group_blocks.specs.Pieces.{AreLiftsOf}
use Rattle.mesa_group_blocks.proofs.Moved.{moved_further, moved_known}
use Rattle.mesa_group_blocks.proofs.ReadBlocks.{further_on, goes_on}
use Rattle.mesa_group_blocks.proofs.beside.run_jobs.Goals as goal

pub each_round-init : goal.each_round-init
each_round-init g c = record {
  on = goes_on g.R.FileReader.bytes g.R.FileReader.size c.args.filter.now c.args.files.now c.args.jobs.now;
  faults = refl;
}

pub run_round-requires-clause-lifts : goal.run_round-requires-clause-lifts
run_round-requires-clause-lifts g c = λ κs below.
    let known = moved_known g.R.FileReader.bytes g.R.FileReader.size c.args.files.now c.each_round.files c.each_round.invariant.on.moved in
    subst (λ (ks : List Known). AreLiftsOf ks c.args.lifts.now) (sym known) c.requires.lifts

pub run_round-requires-clause-jobs : goal.run_round-requires-clause-jobs
run_round-requires-clause-jobs g c = λ κs below.
    let known = moved_known g.R.FileReader.bytes g.R.FileReader.size c.args.files.now c.each_round.files c.each_round.invariant.on.moved in
    let w = c.requires.jobs.0 in
    (w, subst (λ (ks : List Known). AreRun ks w c.args.filter.now c.each_round.jobs) (sym known) (c.each_round.invariant.on.jobs w c.requires.jobs.1))

pub each_round-preserved : goal.each_round-preserved
each_round-preserved g c =
    let inv = c.each_round.invariant in
    record {
      on = further_on g.R.FileReader.bytes g.R.FileReader.size c.args.filter.now c.args.files.now c.each_round.files c.run_round.new.files c.args.jobs.now c.each_round.jobs c.run_round.new.jobs inv.on
          (record { jobs = c.in_ok-run_round.ensures.jobs c.if-not-branch.false; pieces = c.run_round.ensures.pieces; moved = c.run_round.ensures.moved });
      faults = c.in_ok-run_round.ensures.cause.quiet ∙ inv.faults;
    }

pub returns-in_err-run_round-clause-pieces : goal.returns-in_err-run_round-clause-pieces
returns-in_err-run_round-clause-pieces g c = c.run_round.ensures.pieces ∙ c.each_round.invariant.on.pieces

pub returns-in_err-run_round-clause-moved : goal.returns-in_err-run_round-clause-moved
returns-in_err-run_round-clause-moved g c =
    moved_further g.R.FileReader.bytes g.R.FileReader.size c.args.files.now c.each_round.files c.run_round.new.files c.each_round.invariant.on.moved c.run_round.ensures.moved

pub returns-in_err-run_round-clause-cause : goal.returns-in_err-run_round-clause-cause
returns-in_err-run_round-clause-cause g c =
    let p = err_from_is_err_and c.from_residual.result c.from_residual.ensures.1 in
    let e = c.in_err-run_round.field-0.0 in
    rw (p.1, p.2) (cause_on _ _ _ (Err e) (Err e) c.each_round.invariant.faults c.in_err-run_round.ensures.cause refl)

pub returns-then-not-branch-clause-pieces : goal.returns-then-not-branch-clause-pieces
returns-then-not-branch-clause-pieces g c = c.run_round.ensures.pieces ∙ c.each_round.invariant.on.pieces

pub returns-then-not-branch-clause-moved : goal.returns-then-not-branch-clause-moved
returns-then-not-branch-clause-moved g c =
    moved_further g.R.FileReader.bytes g.R.FileReader.size c.args.files.now c.each_round.files c.run_round.new.files c.each_round.invariant.on.moved c.run_round.ensures.moved

pub returns-then-not-branch-clause-cause : goal.returns-then-not-branch-clause-cause
returns-then-not-branch-clause-cause g c = cause_quiet _ _ _ (c.in_ok-run_round.ensures.cause.quiet ∙ c.each_round.invariant.faults)

pub returns-clause-cause : goal.returns-clause-cause
returns-clause-cause g c = cause_quiet _ _ _ c.each_round.invariant.faults
