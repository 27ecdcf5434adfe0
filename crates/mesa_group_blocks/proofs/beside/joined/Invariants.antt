use Rattle.std.proofs.Common.{◌≡◌, ◌++◌, List, length}
use Rattle.mesa_group_blocks.proofs.Joined.{AreJoined}
use Rattle.mesa_group_blocks.specs.declared.jobs.Job.{Job}
use Rattle.mesa_group_blocks.proofs.beside.joined.Given as goal

-- the rows of the last jobs are put in
abbrev pub invariant-each_job : goal.invariant-each_job
invariant-each_job l = (done : List Job) × (l.jobs.items ++ done ≡ l.fn.jobs.items) × AreJoined l.fn.jobs.items done l.all

abbrev pub decreases-each_job : goal.decreases-each_job
decreases-each_job l = length l.jobs.items
