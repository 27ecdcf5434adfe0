use Rattle.std.proofs.Common.{◌≡◌, ◌++◌, map, drop}
use Rattle.mesa_schema.specs.mesa_columns.Columns.{aggs_of}
use Rattle.mesa_batch.specs.Totals.{abs_total, abs_totals, capped, sum_places}
use Rattle.mesa_batch.proofs.recasting.row_totals.Given as goal

-- the totals of the columns so far, and those of the columns that are left
abbrev pub invariant-columns : goal.invariant-columns
invariant-columns l = l.totals ++ capped (map (λ column. abs_total column l.rows) (sum_places l.place (drop l.place (aggs_of l.schema)))) ≡ capped (abs_totals l.schema l.rows)
