use Rattle.std.proofs.Common.{length}
use Rattle.mesa_bench.proofs.measure_all.Given as goal

abbrev pub decreases-loop-left : goal.decreases-loop-left
decreases-loop-left g l = length l.left
