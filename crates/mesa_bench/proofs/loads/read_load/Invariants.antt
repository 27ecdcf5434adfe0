use Rattle.mesa_batch.specs.Gathered.{IsReadBy}
use Rattle.mesa_bench.proofs.loads.read_load.Given as goal

abbrev pub invariant-loop-i : goal.invariant-loop-i
invariant-loop-i l = IsReadBy l.glance l.builder
