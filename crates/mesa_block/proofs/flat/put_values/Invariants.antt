use Rattle.std.proofs.Common.{◌≡◌, ◌++◌, drop}
use Rattle.mesa_block.specs.Reading.{values_at}
use Rattle.mesa_block.proofs.flat.put_values.Given as goal

abbrev pub invariant-loop-j : goal.invariant-loop-j
invariant-loop-j l = l.found.items ++ values_at (drop l.j l.widths) (drop l.j l.columns) l.i ≡ l.initial.found.items ++ values_at l.widths l.columns l.i
