-- Rows cut to an interval of key bytes.
use Rattle.std.specs.Prelude.{◌≡◌, ℕ, List, [], ◌∷◌, map, filter, Option, None, Some, Bool, true, ◌&&◌, ⊤}
use Rattle.std.specs.Ordering.{is_le, is_lt}
use Rattle.std.specs.declared.cmp.Ordering.TheVariants.{Less}
use Rattle.mesa_delta.specs.mesa_value.declared.Agg.{Agg}
use Rattle.mesa_delta.specs.mesa_key.Order.{byte_cmp}
use Rattle.mesa_delta.specs.mesa_columns.declared.rows.Row.{Row}
use Rattle.mesa_delta.specs.mesa_fold.Folded.{folded}

-- a key is at or above the low end, where there is one
abbrev pub is_from : Option (List ℕ) → List ℕ → Bool
is_from None key = true
is_from (Some low) key = is_le (byte_cmp low key)

-- a key is below the high end, where there is one
abbrev pub is_under : Option (List ℕ) → List ℕ → Bool
is_under None key = true
is_under (Some high) key = is_lt (byte_cmp key high)

abbrev pub lies_in : Option (List ℕ) → Option (List ℕ) → List ℕ → Bool
lies_in low high key = is_from low key && is_under high key

-- The cut of rows: those whose key lies in the interval, in their order.
abbrev pub cut : Option (List ℕ) → Option (List ℕ) → List Row → List Row
cut low high rows = filter (λ (row : Row). lies_in low high row.key) rows

-- an end lies below a key
abbrev pub IsLow : Option (List ℕ) → List ℕ → Type 0
IsLow None key = ⊤
IsLow (Some low) key = byte_cmp low key ≡ Less

-- Cuts rise, from this end on.
abbrev pub CutsRise : Option (List ℕ) → List (List ℕ) → Type 0
CutsRise low [] = ⊤
CutsRise low (key ∷ keys) = IsLow low key × CutsRise (Some key) keys

-- The parts into which cuts divide rows, from this end on: one more than there are cuts.
abbrev pub cuts_from : Option (List ℕ) → List (List ℕ) → List Row → List (List Row)
cuts_from low [] rows = cut low None rows ∷ []
cuts_from low (key ∷ keys) rows = cut low (Some key) rows ∷ cuts_from (Some key) keys rows

-- the inputs' rows cut to an interval
abbrev pub cut_each : Option (List ℕ) → Option (List ℕ) → List (List Row) → List (List Row)
cut_each low high parts = map (cut low high) parts

-- The fold of the inputs' rows in each of the parts into which cuts divide them.
abbrev pub folds_from : List Agg → Option (List ℕ) → List (List ℕ) → List (List Row) → List (List Row)
folds_from aggs low [] parts = folded aggs (cut_each low None parts) ∷ []
folds_from aggs low (key ∷ keys) parts = folded aggs (cut_each low (Some key) parts) ∷ folds_from aggs (Some key) keys parts
