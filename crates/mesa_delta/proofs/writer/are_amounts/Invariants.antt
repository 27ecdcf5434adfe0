use Rattle.std.proofs.Common.{take}
use Rattle.std.specs.List.{AllByRecursion}
use Rattle.mesa_delta_format.specs.mesa_value.Agg.{IsAmount}
use Rattle.mesa_delta.proofs.writer.are_amounts.Given as goal

abbrev pub invariant-loop-value : goal.invariant-loop-value
invariant-loop-value l = AllByRecursion IsAmount (take l.value-index l.values)
