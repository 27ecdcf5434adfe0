use Rattle.std.proofs.Common.{◌≡◌, ◌++◌, drop, length, replicate}
use Rattle.mesa_answer.specs.mesa_columns.Columns.{aggs_of}
use Rattle.mesa_batch.specs.Totals.{sums_in}
use Rattle.mesa_batch.proofs.SumNames.{sum_names}
use Rattle.mesa_oracle_tables.proofs.growing.zeros.Given as goal

-- the zeros so far, and those of the columns that are left
abbrev pub invariant-columns : goal.invariant-columns
invariant-columns l = l.totals ++ replicate (length (sum_names (drop l.column-index l.schema.values))) 0 ≡ replicate (sums_in (aggs_of l.schema)) 0
