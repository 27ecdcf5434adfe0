use Rattle.std.proofs.Common.{◌≡◌, ◌++◌, map, drop}
use Rattle.mesa_schema.specs.mesa_columns.Columns.{aggs_of}
use Rattle.mesa_batch.specs.Flat.{rows_over}
use Rattle.mesa_batch.specs.Totals.{abs_total, abs_totals, capped, sum_places}
use Rattle.mesa_batch.proofs.totals.absolute_totals.Given as goal

-- the totals of the columns so far, and those of the columns that are left
abbrev pub invariant-columns : goal.invariant-columns
invariant-columns l = l.totals ++ capped (map (λ column. abs_total column (rows_over l.rows l.places)) (sum_places l.place (drop l.place (aggs_of l.schema)))) ≡ capped (abs_totals l.schema (rows_over l.rows l.places))
