use Rattle.std.proofs.Common.{◌≡◌, ◌<◌, [], drop, get_or, length}
use Rattle.mesa_batch.specs.Totals.{sum_name}
use Rattle.mesa_batch.proofs.SumNames.{sum_names}
use Rattle.mesa_batch.proofs.summing.sum_column.Given as goal

-- the column stands among the others' sums
abbrev pub invariant-columns : goal.invariant-columns
invariant-columns l = record {
  within : l.left < length (sum_names (drop l.column-index l.schema.values));
  same : get_or (sum_names (drop l.column-index l.schema.values)) l.left [] ≡ sum_name l.schema l.place;
}
