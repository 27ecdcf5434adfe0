-- How gathered rows stand flat, and in which order they are put.
use Rattle.std.specs.Prelude.{◌≡◌, ◌<◌, ◌≤◌, ◌^◌, ◌+◌, ℕ, ℤ, List, [], ◌∷◌, length, map, slice_index_or, Option, Some, None, IfSome, Bool, true, false, nat_le, if◌then◌else◌}
use Rattle.std.specs.Ordering.{nat_cmp, ordering_then}
use Rattle.std.specs.declared.cmp.Ordering.{Ordering}
use Rattle.mesa_list.specs.Pieces.{Rise, last_end}
use Rattle.mesa_schema.specs.mesa_key.Order.{byte_cmp}
use Rattle.mesa_schema.specs.mesa_columns.declared.rows.Row.{Row}
use Rattle.mesa_batch.specs.Batch.{Placed, is_at}

-- the rows of these tables' numbers, keys and values
abbrev pub flat_rows : List ℕ → List (List ℕ) → List (List ℤ) → List Placed
flat_rows [] keys values = []
flat_rows (table ∷ tables) [] values = []
flat_rows (table ∷ tables) (key ∷ keys) [] = []
flat_rows (table ∷ tables) (key ∷ keys) (value ∷ values) = record { table = table; row = record { key = key; values = value } } ∷ flat_rows tables keys values

-- each row has a table, a key, and an end of its values; there are fewer than 2^32
pub record AreFlat (tables : List ℕ) (keys : List (List ℕ)) (values : List ℤ) (ends : List ℕ) : Type 0 where
  pub keyed : length keys ≡ length tables
  pub ended : length ends ≡ length tables
  pub rise : Rise 0 ends
  pub whole : last_end 0 ends ≡ length values
  pub few : length tables < 2 ^ 32

-- the row at a place, counted from 0
abbrev pub placed_at : List Placed → ℕ → Placed
placed_at rows place = slice_index_or rows place (record { table = 0; row = record { key = []; values = [] } })

-- rows are ordered by table, then by key
abbrev pub placed_cmp : Placed → Placed → Ordering
placed_cmp a b = ordering_then (nat_cmp a.table b.table) (byte_cmp a.row.key b.row.key)

-- places are ordered by their rows, and where these have one table and key by themselves
abbrev pub spot_cmp : List Placed → ℕ → ℕ → Ordering
spot_cmp rows a b = ordering_then (placed_cmp (placed_at rows a) (placed_at rows b)) (nat_cmp a b)

-- whether the rows at two places have one table and key
abbrev pub is_twice : List Placed → ℕ → ℕ → Bool
is_twice rows a b = is_at (placed_at rows b).table (placed_at rows b).row.key (placed_at rows a)

-- Of the neighbours before a place in this order that have one table and key, those whose second one comes first.
pub record IsFirstTwice (rows : List Placed) (order : List ℕ) (high : ℕ) (found : Option (ℕ × ℕ)) : Type 0 where
  pub pair : IfSome found (λ (w : ℕ × ℕ). (k : ℕ) × (k + 1 < length order) × (slice_index_or order k 0 ≡ w.0) × (slice_index_or order (k + 1) 0 ≡ w.1) × (is_twice rows w.0 w.1 ≡ true))
  pub least : (k : ℕ) → k + 1 < high → is_twice rows (slice_index_or order k 0) (slice_index_or order (k + 1) 0) ≡ true → (w : ℕ × ℕ) × (found ≡ Some w) × (w.1 ≤ slice_index_or order (k + 1) 0)

-- the neighbours that were found so far, or these, where they have one table and key and their second one comes before
abbrev pub earlier_twice : Bool → Option (ℕ × ℕ) → ℕ × ℕ → Option (ℕ × ℕ)
earlier_twice false found pair = found
earlier_twice true None pair = Some pair
earlier_twice true (Some before) pair = if nat_le before.1 pair.1 then Some before else Some pair

-- the rows at places
abbrev pub rows_over : List Placed → List ℕ → List Row
rows_over rows places = map (λ place. (placed_at rows place).row) places
