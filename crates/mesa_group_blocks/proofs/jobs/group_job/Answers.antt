use Rattle.std.proofs.Common.{refl, sym, ◌∙◌, ap, subst}
use Rattle.mesa_open_files.specs.mesa_columns.Columns.{kinds_of}
use Rattle.mesa_merge.specs.Inputs.{AreAlike}
use Rattle.mesa_answer.specs.Gathering.{Wanted}
use Rattle.mesa_group_blocks.specs.declared.jobs.Job.{Job}
use Rattle.mesa_group_blocks.proofs.JobSteps.{job_grouped}
use Rattle.mesa_group_blocks.proofs.jobs.group_job.Goals as goal

pub put_waiting-requires-clause-gathering : goal.put_waiting-requires-clause-gathering
put_waiting-requires-clause-gathering c = let job = c.requires.2.job in (job.given, job.put)

pub put_waiting-requires-clause-filter : goal.put_waiting-requires-clause-filter
put_waiting-requires-clause-filter c = let can = c.requires.2 in can.filter ∙ ap (λ (w : Wanted). kinds_of w.schema) (sym can.job.wanted)

pub put_waiting-requires-clause-files : goal.put_waiting-requires-clause-files
put_waiting-requires-clause-files c =
    let can = c.requires.2 in
    (c.requires.0, subst (λ (w : Wanted). AreAlike w.schema c.requires.0) (sym can.job.wanted) can.alike, can.decoded, can.job.waiting)

pub returns-in_default : goal.returns-in_default
returns-in_default c = record { pieces = refl; next = refl; job = λ sound. cc sound }

pub returns : goal.returns
returns c =
    let old : Job = c.args.job.now in
    let new : Job = record old { waiting = c.put_waiting.new.waiting; groups = c.put_waiting.new.groups; sound = c.in-Ok.all } in
    record {
      pieces = refl;
      next = refl;
      job = λ sound ks w can.
          job_grouped ks w c.args.filter.now c.args.decodings.now old new can refl refl (c.in-Ok.ensures.empty sound) c.put_waiting.ensures.wanted (c.in-Ok.ensures.put sound);
    }
