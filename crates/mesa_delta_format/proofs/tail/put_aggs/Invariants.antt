use Rattle.std.proofs.Common.{◌≡◌, ◌++◌, map, drop}
use Rattle.mesa_columns.specs.Codes.{agg_byte}
use Rattle.mesa_delta_format.proofs.Adding.{agg_of}
use Rattle.mesa_delta_format.proofs.tail.put_aggs.Given as goal

abbrev pub invariant-loop-column : goal.invariant-loop-column
invariant-loop-column l = l.out.items ++ map agg_byte (map agg_of (drop l.column-index l.columns)) ≡ l.fn.out.items ++ map agg_byte (map agg_of l.columns)
