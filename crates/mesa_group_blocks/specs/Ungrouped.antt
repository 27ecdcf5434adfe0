-- What rows of files are in the queried relation before any of them are grouped.
use Rattle.std.specs.Prelude.{ℕ, List, [], ◌∷◌, map, Bool, true, false, Option, None, Some}
use Rattle.mesa_open_files.specs.mesa_columns.declared.rows.Row.{Row}
use Rattle.mesa_open_files.specs.mesa_columns.declared.views.View.{View}
use Rattle.mesa_open_files.specs.mesa_columns.Columns.{Columns}
use Rattle.mesa_schema.specs.Changes.{Lineage, columns_of}
use Rattle.mesa_open_files.specs.mesa_fold.Folded.{regrouped}
use Rattle.mesa_schema.specs.Views.{view_key_places, view_value_places}
use Rattle.mesa_open_files.specs.Inputs.{lifted_in, lineage_of}
use Rattle.mesa_open_files.specs.Pins.{view_at}
use Rattle.mesa_open_files.specs.declared.querying.PinnedInput.{PinnedInput}

-- rows of a table under a view's keys, with the view's values, each by itself
abbrev pub under_view : Columns → View → List Row → List Row
under_view table v rows = map (regrouped table (view_key_places table v) (view_value_places table v)) rows

abbrev pub under_some : Columns → List Row → Option View → List Row
under_some table rows None = []
under_some table rows (Some v) = under_view table v rows

-- a file's present rows under the relation's keys: the relation's own as they are, or those of its table, each by itself
abbrev pub rows_under : Option ℕ → Lineage → List Row → Bool → List Row
rows_under view l rows true = rows
rows_under view l rows false = under_some (columns_of l) rows (view_at l view)

-- What the rows of a pinned file are in the relation before any of them are grouped,
abbrev pub rows_ungrouped : {R : Type 0} → Option ℕ → PinnedInput R → List Row → List Row
rows_ungrouped view file rows = rows_under view (lineage_of file.input) (lifted_in file.input rows) file.own

-- and those of each file.
abbrev pub parts_ungrouped : {R : Type 0} → Option ℕ → List (PinnedInput R) → List (List Row) → List (List Row)
parts_ungrouped view [] contents = []
parts_ungrouped view (file ∷ files) [] = []
parts_ungrouped view (file ∷ files) (rows ∷ contents) = rows_ungrouped view file rows ∷ parts_ungrouped view files contents
