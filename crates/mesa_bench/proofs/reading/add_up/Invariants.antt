use Rattle.std.proofs.Common.{◌≡◌, length}
use Rattle.mesa_delta.specs.Reading.{index_of}
use Rattle.mesa_bench.proofs.reading.add_up.Given as goal

abbrev pub invariant-loop-i : goal.invariant-loop-i
invariant-loop-i g l = length (index_of l.reader).entries ≡ l.i-end
