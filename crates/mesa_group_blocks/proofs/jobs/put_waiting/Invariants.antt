use Rattle.std.proofs.Common.{length}
use Rattle.mesa_answer.specs.Gathered.{wanted_of}
use Rattle.mesa_group_blocks.proofs.JobSteps.{HasPutSome}
use Rattle.mesa_group_blocks.proofs.jobs.put_waiting.Given as goal

-- the blocks so far are put
abbrev pub invariant-each_block : goal.invariant-each_block
invariant-each_block l = HasPutSome (wanted_of l.fn.groups).schema l.filter l.decodings l.fn.waiting l.waiting l.fn.groups l.groups

abbrev pub decreases-each_block : goal.decreases-each_block
decreases-each_block l = length l.waiting
