-- The bytes of a delta file: each list of rows, at least one, has one spelling.
use Rattle.std.specs.Prelude.{◌≡◌, ℕ, ◌<◌, List, ◌++◌, length, map, flat_map}
use Rattle.std.specs.List.{AllByRecursion}
use Rattle.mesa_columns.specs.declared.rows.Row.{Row}
use Rattle.mesa_block.specs.Layout.{Layout}
use Rattle.mesa_block.specs.Spelling.{block, key_of}
use Rattle.mesa_block.specs.Rows.{IsRow, Rise}
use Rattle.mesa_delta_format.specs.Spread.{blocks_of}
use Rattle.mesa_delta_format.specs.Tail.{tail_of}

-- The tail of the file of these rows.
abbrev pub file_tail : Layout → List Row → List ℕ
file_tail s rows = tail_of s (length rows) (blocks_of s rows)

-- A file is its blocks one after the other, and then its tail.
abbrev pub file_bytes : Layout → List Row → List ℕ
file_bytes s rows = flat_map (block s) (blocks_of s rows) ++ file_tail s rows

-- The bytes are the file of these rows: there is at least one, each has the columns' form, and their keys rise.
pub record IsFile (s : Layout) (rows : List Row) (bytes : List ℕ) : Type 0 where
  pub some : 0 < length rows
  pub good : AllByRecursion (IsRow s) rows
  pub rise : Rise (map key_of rows)
  pub spelled : bytes ≡ file_bytes s rows
