use Rattle.std.proofs.Common.{◌≡◌, take, true}
use Rattle.std.specs.List.{AllByRecursion}
use Rattle.mesa_group_blocks.specs.declared.jobs.Job.{Job}
use Rattle.mesa_group_blocks.proofs.beside.are_sound.Given as goal

abbrev pub invariant-each_job : goal.invariant-each_job
invariant-each_job l = AllByRecursion (λ (job : Job). job.sound ≡ true) (take l.i l.jobs)
