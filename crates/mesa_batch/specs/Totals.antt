-- Absolute totals: what keeps every sum within its type.
use Rattle.std.specs.Prelude.{ℕ, ◌+◌, ◌≤◌, min, pos, nat_abs, List, [], ◌∷◌, ◌++◌, map, zip, sum_by, slice_index_or, take, drop, length, nat_le, if◌then◌else◌, Option, Some, None, position, slice_get, unwrap_or, ⊤}
pub use Rattle.mesa_schema.specs.mesa_value.Agg.{is_sum, sum_bound}
use Rattle.mesa_schema.specs.mesa_value.declared.Agg.{Agg}
use Rattle.mesa_schema.specs.mesa_value.declared.Agg.TheVariants as agg
use Rattle.mesa_schema.specs.mesa_columns.declared.rows.Row.{Row}
use Rattle.mesa_schema.specs.mesa_columns.declared.changes.Change.{Change}
use Rattle.mesa_schema.specs.mesa_columns.declared.changes.Change.TheVariants.{AddKey, AddValue, DropValue}
use Rattle.mesa_schema.specs.mesa_columns.Columns.{Columns, aggs_of, chosen, place_of, value_names}
use Rattle.mesa_schema.specs.Recasts.{Recast, recast_values}

-- the absolute values of a column, added up
abbrev pub abs_total : ℕ → List Row → ℕ
abs_total column rows = sum_by (λ (row : Row). nat_abs (slice_index_or row.values column (pos 0))) rows

-- the places of the sum columns, from place i on
abbrev pub sum_places : ℕ → List Agg → List ℕ
sum_places i [] = []
sum_places i (agg.Sum ∷ aggs) = i ∷ sum_places (i + 1) aggs
sum_places i (agg.Min ∷ aggs) = sum_places (i + 1) aggs
sum_places i (agg.Max ∷ aggs) = sum_places (i + 1) aggs
sum_places i (agg.Replace ∷ aggs) = sum_places (i + 1) aggs

-- Abs: for each sum column the absolute values of its rows, added up.
abbrev pub abs_totals : Columns → List Row → List ℕ
abs_totals s rows = map (λ column. abs_total column rows) (sum_places 0 (aggs_of s))

-- the totals with more
abbrev pub totals_with : List ℕ → List ℕ → List ℕ
totals_with totals more = map (λ (p : ℕ × ℕ). p.0 + p.1) (zip totals more)

-- The first sum column whose total would pass 2^127 - 1.
abbrev pub over_bound : List ℕ → List ℕ → Option ℕ
over_bound totals more = position (λ total. nat_le sum_bound total) (totals_with totals more)

-- the totals, in which one above 2^127 - 1 stands as 2^127
abbrev pub capped : List ℕ → List ℕ
capped totals = map (λ total. min sum_bound total) totals

-- how many sum columns there are
abbrev pub sums_in : List Agg → ℕ
sums_in aggs = length (sum_places 0 aggs)

-- the name of a sum column, by its place among the sum columns
abbrev pub sum_name : Columns → ℕ → List ℕ
sum_name s place = slice_index_or (chosen (sum_places 0 (aggs_of s)) (value_names s)) place []

-- the totals without that of the value column at a place, which has one if it is a sum column
abbrev pub totals_without : List Agg → ℕ → List ℕ → List ℕ
totals_without aggs place totals = take (sums_in (take place aggs)) totals ++ drop (sums_in (take (place + 1) aggs)) totals

-- the totals after a change: an added sum column has total 0, and a dropped one's total goes
abbrev pub totals_after : Columns → Change → List ℕ → List ℕ
totals_after s (AddValue column default) totals = if is_sum column.agg then totals ++ 0 ∷ [] else totals
totals_after s (DropValue name) totals = totals_without (aggs_of s) (unwrap_or (place_of name (value_names s)) (length s.values)) totals
totals_after s (AddKey column default) totals = totals

-- the total of a column, where it is a sum column, and others behind it
abbrev pub with_total : Option Agg → ℕ → List ℕ → List ℕ
with_total None total rest = rest
with_total (Some a) total rest = if is_sum a then total ∷ rest else rest

-- the totals of the value columns at these places
abbrev pub chosen_totals : List Agg → List ℕ → List ℕ → List ℕ
chosen_totals aggs totals [] = []
chosen_totals aggs totals (place ∷ places) = with_total (slice_get aggs place) (slice_index_or totals (sums_in (take place aggs)) 0) (chosen_totals aggs totals places)

-- The totals after a recast: those of the sum columns that are kept, in their new order.
abbrev pub totals_recast : Columns → Recast → List ℕ → List ℕ
totals_recast s r totals = chosen_totals (aggs_of s) totals (recast_values s r)

-- as many totals, each at most the other
abbrev pub AreAtMost : List ℕ → List ℕ → Type 0
AreAtMost [] [] = ⊤
AreAtMost [] (y ∷ ys) = ⊥
AreAtMost (x ∷ xs) [] = ⊥
AreAtMost (x ∷ xs) (y ∷ ys) = (x ≤ y) × AreAtMost xs ys
