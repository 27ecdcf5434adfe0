-- Which rows make a block.
use Rattle.std.specs.Prelude.{◌≡◌, ◌<◌, ◌≤◌, ℕ, List, [], ◌∷◌, length, map}
use Rattle.std.specs.List.{AllByRecursion}
use Rattle.std.specs.declared.cmp.Ordering.TheVariants.{Less}
use Rattle.mesa_columns.specs.mesa_key.Order.{byte_cmp}
use Rattle.mesa_columns.specs.declared.rows.Row.{Row}
use Rattle.mesa_columns.specs.Rows.{IsRowOf}
use Rattle.mesa_block.specs.Layout.{FitCells, Layout, widths_of}
use Rattle.mesa_block.specs.Spelling.{block, key_of}

-- A row can stand in a block: it has the form of the columns, and its values have room in their cells.
pub record IsRow (s : Layout) (row : Row) : Type 0 where
  pub form : IsRowOf s.columns row
  pub cells : FitCells (widths_of s) row.values

-- Each key is greater than the one before.
abbrev pub Rise : List (List ℕ) → Type 0
Rise [] = Unit {0}
Rise (a ∷ []) = Unit {0}
Rise (a ∷ b ∷ keys) = (byte_cmp a b ≡ Less) × Rise (b ∷ keys)

-- A block has at most this many rows,
abbrev pub most_rows : ℕ
most_rows = 1024

-- and at most this many bytes.
abbrev pub most_bytes : ℕ
most_bytes = 65536

-- Rows make a block: there are some and not too many, each has the form of the columns, their keys rise, and their spelling isn't too long.
pub record AreRows (s : Layout) (rows : List Row) : Type 0 where
  pub some : 0 < length rows
  pub few : length rows ≤ most_rows
  pub short : length (block s rows) ≤ most_bytes
  pub good : AllByRecursion (IsRow s) rows
  pub rise : Rise (map key_of rows)
