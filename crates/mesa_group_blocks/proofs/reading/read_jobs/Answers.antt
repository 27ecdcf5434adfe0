use Rattle.std.proofs.Common.{◌≡◌, ◌∙◌, ◌<◌, arith, get_or, length, refl, subst, sym, List}
use Rattle.std.proofs.lemmas.List.{get_or_default}
use Rattle.std.proofs.lemmas.Result.{err_from_is_err_and}
use Rattle.std.specs.Prelude.{Err}
use Rattle.mesa_merge.specs.Inputs.{Known, knowns_of}
use Rattle.mesa_merge.proofs.Causing.{cause_on, cause_quiet}
use Rattle.mesa_group_blocks.specs.Moved.{inputs_in}
use Rattle.mesa_group_blocks.specs.Jobs.{IsJob}
use Rattle.mesa_group_blocks.specs.declared.jobs.Job.{Job}
use Rattle.mesa_group_blocks.proofs.Moved.{moved_known}
use Rattle.mesa_group_blocks.proofs.ReadBlocks.{goes_on, job_goes_on, job_here}
use Rattle.mesa_group_blocks.proofs.reading.read_jobs.Goals as goal

pub each_job-init : goal.each_job-init
each_job-init g c = record {
  on = goes_on g.R.FileReader.bytes g.R.FileReader.size c.args.filter.now c.args.files.now c.args.jobs.now;
  faults = refl;
}

pub read_job-requires-after_bounds : goal.read_job-requires-after_bounds
read_job-requires-after_bounds g c = λ κs below.
    let bytes = g.R.FileReader.bytes in
    let inv = c.each_job.invariant in
    let start = c.args.files.now in
    let w = c.requires.0 in
    let f = c.args.filter.now in
    let lt : c.each_job.i < length c.each_job.jobs = omega arith in
    let job : Job = get_or c.each_job.jobs c.each_job.i c.index-jobs-i.result in
    let is : job ≡ get_or c.each_job.jobs c.each_job.i job = get_or_default c.each_job.jobs c.each_job.i c.index-jobs-i.result job lt in
    let known = moved_known bytes g.R.FileReader.size start c.each_job.files inv.on.moved in
    (w, subst (λ (ks : List Known). IsJob ks w f job) (sym known) (job_here (knowns_of bytes (inputs_in start)) w f c.each_job.jobs c.each_job.i job (inv.on.jobs w c.requires.1) lt is))

pub each_job-preserved : goal.each_job-preserved
each_job-preserved g c = record {
  on = job_goes_on g.R.FileReader.bytes g.R.FileReader.size c.args.filter.now c.args.files.now c.each_job.files c.read_job.new.files c.args.jobs.now c.each_job.jobs c.each_job.i c.index-jobs-i.result c.read_job.new.job c.each_job.invariant.on (omega arith)
      c.read_job.ensures.job c.read_job.ensures.pieces c.read_job.ensures.moved;
  faults = c.in_ok-read_job.ensures.cause.quiet ∙ c.each_job.invariant.faults;
}

pub returns-in_err-read_job-clause-jobs : goal.returns-in_err-read_job-clause-jobs
returns-in_err-read_job-clause-jobs g c =
    (job_goes_on g.R.FileReader.bytes g.R.FileReader.size c.args.filter.now c.args.files.now c.each_job.files c.read_job.new.files c.args.jobs.now c.each_job.jobs c.each_job.i c.index-jobs-i.result c.read_job.new.job c.each_job.invariant.on (omega arith)
    c.read_job.ensures.job c.read_job.ensures.pieces c.read_job.ensures.moved).jobs

pub returns-in_err-read_job-clause-pieces : goal.returns-in_err-read_job-clause-pieces
returns-in_err-read_job-clause-pieces g c =
    (job_goes_on g.R.FileReader.bytes g.R.FileReader.size c.args.filter.now c.args.files.now c.each_job.files c.read_job.new.files c.args.jobs.now c.each_job.jobs c.each_job.i c.index-jobs-i.result c.read_job.new.job c.each_job.invariant.on (omega arith)
    c.read_job.ensures.job c.read_job.ensures.pieces c.read_job.ensures.moved).pieces

pub returns-in_err-read_job-clause-moved : goal.returns-in_err-read_job-clause-moved
returns-in_err-read_job-clause-moved g c =
    (job_goes_on g.R.FileReader.bytes g.R.FileReader.size c.args.filter.now c.args.files.now c.each_job.files c.read_job.new.files c.args.jobs.now c.each_job.jobs c.each_job.i c.index-jobs-i.result c.read_job.new.job c.each_job.invariant.on (omega arith)
    c.read_job.ensures.job c.read_job.ensures.pieces c.read_job.ensures.moved).moved

pub returns-then-not-branch-clause-jobs : goal.returns-then-not-branch-clause-jobs
returns-then-not-branch-clause-jobs g c =
    (job_goes_on g.R.FileReader.bytes g.R.FileReader.size c.args.filter.now c.args.files.now c.each_job.files c.read_job.new.files c.args.jobs.now c.each_job.jobs c.each_job.i c.index-jobs-i.result c.read_job.new.job c.each_job.invariant.on (omega arith)
    c.read_job.ensures.job c.read_job.ensures.pieces c.read_job.ensures.moved).jobs

pub returns-then-not-branch-clause-pieces : goal.returns-then-not-branch-clause-pieces
returns-then-not-branch-clause-pieces g c =
    (job_goes_on g.R.FileReader.bytes g.R.FileReader.size c.args.filter.now c.args.files.now c.each_job.files c.read_job.new.files c.args.jobs.now c.each_job.jobs c.each_job.i c.index-jobs-i.result c.read_job.new.job c.each_job.invariant.on (omega arith)
    c.read_job.ensures.job c.read_job.ensures.pieces c.read_job.ensures.moved).pieces

pub returns-then-not-branch-clause-moved : goal.returns-then-not-branch-clause-moved
returns-then-not-branch-clause-moved g c =
    (job_goes_on g.R.FileReader.bytes g.R.FileReader.size c.args.filter.now c.args.files.now c.each_job.files c.read_job.new.files c.args.jobs.now c.each_job.jobs c.each_job.i c.index-jobs-i.result c.read_job.new.job c.each_job.invariant.on (omega arith)
    c.read_job.ensures.job c.read_job.ensures.pieces c.read_job.ensures.moved).moved

pub returns-in_err-read_job-clause-cause : goal.returns-in_err-read_job-clause-cause
returns-in_err-read_job-clause-cause g c =
    let p = err_from_is_err_and c.from_residual.result c.from_residual.ensures.1 in
    let e = c.in_err-read_job.field-0.0 in
    rw (p.1, p.2) (cause_on _ _ _ (Err e) (Err e) c.each_job.invariant.faults c.in_err-read_job.ensures.cause refl)

pub returns-then-not-branch-clause-cause : goal.returns-then-not-branch-clause-cause
returns-then-not-branch-clause-cause g c = cause_quiet _ _ _ (c.in_ok-read_job.ensures.cause.quiet ∙ c.each_job.invariant.faults)

pub returns-clause-cause : goal.returns-clause-cause
returns-clause-cause g c = cause_quiet _ _ _ c.each_job.invariant.faults
