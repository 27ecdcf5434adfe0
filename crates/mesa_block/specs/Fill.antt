-- A block that is filled row by row.
use Rattle.std.specs.Prelude.{◌≡◌, ◌≤◌, ◌+◌, ℕ, ℤ, List, [], ◌∷◌, ◌++◌, length, map, take, drop, Bool, true, false, ◌&&◌, ◌||◌, nat_le, nat_lt}
use Rattle.std.specs.List.{AllByRecursion}
use Rattle.mesa_columns.specs.mesa_key.declared.KeyType.{KeyType}
use Rattle.mesa_columns.specs.declared.rows.Row.{Row}
use Rattle.mesa_columns.specs.Columns.{kinds_of}
use Rattle.mesa_block.specs.declared.layout.Width.{Width}
use Rattle.mesa_block.specs.Layout.{Layout, values_size, widths_of}
use Rattle.mesa_block.specs.Spelling.{block, key_of}
use Rattle.mesa_block.specs.Rows.{IsRow, Rise, most_rows, most_bytes}

-- Rows fit in one block: they aren't too many, and their spelling isn't too long.
abbrev pub fit : Layout → List Row → Bool
fit s rows = nat_le (length rows) most_rows && nat_le (length (block s rows)) most_bytes

-- A block of so many rows and so many bytes has no room for one row more, whose values take so many bytes: it has as many as a block may have, or with the row's key and values it would be too long.
abbrev pub is_full : ℕ → ℕ → ℕ → Row → Bool
is_full size rows len row = nat_le most_rows rows || nat_lt most_bytes (len + (length row.key + size))

-- The rows of a block that is being filled, and how they stand in it.
pub record Built : Type 0 where
  pub layout : Layout
  pub rows : List Row

-- what stands in a block that is being filled, and how long its block is
pub record IsBuilt (s : Layout) (rows : List Row) (len : ℕ) : Type 0 where
  pub size : len ≡ length (block s rows)
  pub few : length rows ≤ most_rows
  pub short : len ≤ most_bytes
  pub good : AllByRecursion (IsRow s) rows
  pub rise : Rise (map key_of rows)

-- the block after a row was offered: with it where it fits
abbrev pub after : Bool → Built → Row → Built
after true b row = record b { rows = b.rows ++ row ∷ [] }
after false b row = b

-- the rows that have these keys, and of these values so many each, row by row
abbrev pub rows_over : ℕ → List (List ℕ) → List ℤ → List Row
rows_over count [] values = []
rows_over count (key ∷ keys) values = record { key = key; values = take count values } ∷ rows_over count keys (drop count values)

-- there are just as many values as rows with these keys have
abbrev pub AreOver : ℕ → List (List ℕ) → List ℤ → Type 0
AreOver count [] values = values ≡ []
AreOver count (key ∷ keys) values = (count ≤ length values) × AreOver count keys (drop count values)

-- what a block that is being filled has in its buffers
pub record IsHeld (s : Layout) (types : List KeyType) (ws : List Width) (n : ℕ) (keys : List (List ℕ)) (values : List ℤ) (len : ℕ) : Type 0 where
  pub kinds : types ≡ kinds_of s.columns
  pub widths : ws ≡ widths_of s
  pub size : n ≡ values_size (widths_of s)
  pub over : AreOver (length s.columns.values) keys values
  pub built : IsBuilt s (rows_over (length s.columns.values) keys values) len
