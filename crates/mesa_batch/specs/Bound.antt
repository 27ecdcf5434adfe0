-- What keeps the sums of a fold within their type.
use Rattle.std.specs.Prelude.{◌≡◌, ℕ, ◌+◌, ◌<◌, ◌≤◌, List, length, map, slice_get, Some}
use Rattle.mesa_schema.specs.mesa_value.declared.Agg.{Agg}
use Rattle.mesa_schema.specs.mesa_value.declared.Agg.TheVariants.{Sum}
use Rattle.mesa_schema.specs.mesa_columns.declared.rows.Row.{Row}
use Rattle.mesa_schema.specs.mesa_fold.Folded.{folded, rows_of}
use Rattle.mesa_schema.specs.mesa_columns.Columns.{Columns, aggs_of}
use Rattle.mesa_schema.specs.mesa_fold.Laws.{AreFull}
use Rattle.mesa_schema.specs.Recasts.{IsRecastOf, Recast, recast_columns, recast_rows}
use Rattle.mesa_schema.specs.mesa_columns.Rows.{AreRowsOf}
use Rattle.mesa_batch.specs.Totals.{AreAtMost, abs_total, abs_totals, sum_bound, sums_in, totals_recast}

-- in each sum column the absolute values of both add up to at most 2^127 - 1
abbrev pub KeepsBound : List Agg → List Row → List Row → Type 0
KeepsBound aggs content rows = (c : ℕ) → slice_get aggs c ≡ Some Sum → abs_total c content + abs_total c rows < sum_bound

-- in each sum column the absolute values add up to at most those of both
abbrev pub AddsAtMost : List Agg → List Row → List Row → List Row → Type 0
AddsAtMost aggs content rows after = (c : ℕ) → slice_get aggs c ≡ Some Sum → abs_total c after ≤ abs_total c content + abs_total c rows

-- In each sum column the absolute values of a fold add up to at most those of its rows.
abbrev pub FoldsTotals : Type 0
FoldsTotals = (aggs : List Agg) (parts : List (List Row)) (c : ℕ) → slice_get aggs c ≡ Some Sum → AreFull aggs (rows_of parts) → abs_total c (folded aggs parts) ≤ abs_total c (rows_of parts)

-- Totals that bound the rows of parts bound, once each part is recast, those of the recast's columns.
abbrev pub TotalsOutlast : Type 0
TotalsOutlast = (s : Columns) (r : Recast) (parts : List (List Row)) (totals : List ℕ) → IsRecastOf s r → AreRowsOf s (rows_of parts) → AreAtMost (abs_totals s (rows_of parts)) totals
    → AreAtMost (abs_totals (recast_columns s r) (rows_of (map (recast_rows s r) parts))) (totals_recast s r totals)

-- There is one for each sum column that is kept.
abbrev pub TotalsKept : Type 0
TotalsKept = (s : Columns) (r : Recast) (totals : List ℕ) → IsRecastOf s r → length (totals_recast s r totals) ≡ sums_in (aggs_of (recast_columns s r))
