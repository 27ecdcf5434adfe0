use Rattle.std.proofs.Common.{◌≡◌, ◌++◌, List, length, map, drop}
use Rattle.mesa_open_files.specs.mesa_columns.declared.rows.Row.{Row}
use Rattle.mesa_open_files.specs.mesa_columns.Columns.{aggs_of}
use Rattle.mesa_open_files.specs.mesa_batch.Totals.{abs_total, abs_totals, sum_places}
use Rattle.mesa_examine.specs.Sums.{AreTotals, counted}
use Rattle.mesa_examine.proofs.totals.sum_totals.Given as goal

-- the totals of the columns so far, and those of the columns that are left
abbrev pub invariant-columns : goal.invariant-columns
invariant-columns l = (rows : List Row) → AreTotals (length l.schema.values) l.totals rows
    → l.sums ++ counted (map (λ column. abs_total column rows) (sum_places l.place (drop l.place (aggs_of l.schema)))) ≡ counted (abs_totals l.schema rows)
