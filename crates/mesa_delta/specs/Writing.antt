-- Writing a file row by row.
use Rattle.std.specs.Prelude.{ℕ, ◌<◌, List, [], ◌∷◌, ◌++◌, length, map, Option}
use Rattle.std.specs.List.{AllByRecursion}
use Rattle.mesa_delta_format.specs.mesa_columns.declared.rows.Row.{Row}
use Rattle.mesa_delta_format.specs.mesa_columns.Columns.{Columns, aggs_of}
use Rattle.mesa_delta_format.specs.mesa_columns.Rows.{IsRowOf}
use Rattle.mesa_delta_format.specs.mesa_block.Layout.{Layout}
use Rattle.mesa_delta_format.specs.mesa_block.Rows.{IsRow, Rise}
use Rattle.mesa_delta_format.specs.mesa_block.Spelling.{key_of}
use Rattle.mesa_delta_format.specs.Spread.{spread}
use Rattle.mesa_delta_format.specs.Summary.{AllCombine, aggregates, new_layout}
use Rattle.mesa_delta.specs.Laying.{Lays}
use Rattle.mesa_delta_format.specs.Tallies.{Tallies}
use Rattle.mesa_delta.specs.declared.writer.DeltaWriter.{DeltaWriter}

-- the columns of the rows that a writer takes, the id that its file is to have, and the draft that it writes through
abbrev pub columns_of : {M T : Type 0} → DeltaWriter M T → Columns
columns_of w = w.schema

-- how it spells them
abbrev pub layout_of : {M T : Type 0} → DeltaWriter M T → Layout
layout_of w = new_layout w.schema

abbrev pub id_of : {M T : Type 0} → DeltaWriter M T → ℕ
id_of w = w.id

abbrev pub draft_of : {M T : Type 0} → DeltaWriter M T → T
draft_of w = w.blocks.draft

-- A row may follow others: it has the columns' form, its key is greater than theirs, and no sum over all of them leaves its type.
pub record MayFollow (s : Columns) (rows : List Row) (row : Row) : Type 0 where
  pub form : IsRowOf s row
  pub greater : Rise (map key_of (rows ++ row ∷ []))
  pub sums : 0 < length rows → AllCombine (aggs_of s) (aggregates (aggs_of s) rows) row.values

-- A writer has taken just these rows.
pub record HasTaken {M T : Type 0} (bytes : T → Option (List ℕ)) (w : DeltaWriter M T) (rows : List Row) : Type 0 where
  pub laid : Lays bytes (layout_of w) w.blocks (spread (layout_of w) rows)
  pub tallied : Tallies w.schema w.tally rows
  pub good : AllByRecursion (IsRow (layout_of w)) rows
  pub rise : Rise (map key_of rows)

-- A row may be given to a writer: it has taken rows that the row may follow.
abbrev pub IsNext : {M T : Type 0} → (T → Option (List ℕ)) → DeltaWriter M T → Row → Type 0
IsNext bytes w row = (rows : List Row) × HasTaken bytes w rows × MayFollow w.schema rows row
