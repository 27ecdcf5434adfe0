use Rattle.std.proofs.Common.{take}
use Rattle.std.specs.List.{AllByRecursion}
use Rattle.mesa_value.specs.Agg.{IsNarrow}
use Rattle.mesa_base_tests.proofs.schema.digests.are_narrow.Given as goal

abbrev pub invariant-loop-value : goal.invariant-loop-value
invariant-loop-value l = AllByRecursion IsNarrow (take l.value-index l.values)
