-- Queries with the files that answer them.
use Rattle.std.specs.Prelude.{◌≡◌, ℕ, List, [], Bool, true, false, Option, Some, None, slice_get}
use Rattle.std.specs.List.{AllByRecursion}
use Rattle.mesa_history_spec.specs.mesa_columns.declared.rows.Row.{Row}
use Rattle.mesa_history_spec.specs.mesa_columns.declared.views.View.{View}
use Rattle.mesa_history_spec.specs.mesa_columns.Columns.{Columns}
use Rattle.mesa_schema.specs.Changes.{Lineage, columns_of}
use Rattle.mesa_schema.specs.Views.{view_columns, view_rows}
use Rattle.mesa_filter.specs.Query.{IsQueryOf}
use Rattle.mesa_scan.specs.Cursors.{IsInput}
use Rattle.mesa_open_files.specs.Inputs.{lifted_in, lineage_of}
use Rattle.mesa_open_files.specs.declared.querying.Pinned.{Pinned}
use Rattle.mesa_open_files.specs.declared.querying.PinnedInput.{PinnedInput}

-- the view of a number, if a number is given and the table has it
abbrev pub view_at : Lineage → Option ℕ → Option View
view_at l None = None
view_at l (Some number) = slice_get l.views number

-- There is such a view, and it has these columns.
abbrev pub HasViewOf : Columns → Columns → Option View → Type 0
HasViewOf s table None = ⊥
HasViewOf s table (Some v) = view_columns table v ≡ s

-- the relation's own file is lifted to its columns, and a table's is of one that has the view
abbrev pub IsOfRelation : Columns → Option ℕ → Lineage → Bool → Type 0
IsOfRelation s view l true = columns_of l ≡ s
IsOfRelation s view l false = HasViewOf s (columns_of l) (view_at l view)

-- A file that answers a query of a relation with these columns, the view of this number or a table.
pub record IsPinnedInput {R : Type 0} (bytes : R → Option (List ℕ)) (s : Columns) (view : Option ℕ) (i : PinnedInput R) : Type 0 where
  pub input : IsInput bytes i.input
  pub relation : IsOfRelation s view (lineage_of i.input) i.own

-- A query of a relation with these columns, and the files that answer it.
pub record IsPinned {R : Type 0} (bytes : R → Option (List ℕ)) (s : Columns) (p : Pinned R) : Type 0 where
  pub query : IsQueryOf s p.query
  pub inputs : AllByRecursion (IsPinnedInput bytes s p.view) p.inputs.items

-- the rows of a table, grouped by the view
abbrev pub derived : Columns → List Row → Option View → List Row
derived table rows None = []
derived table rows (Some v) = view_rows table v rows

-- a file's present rows as rows of the relation: its own, or its table's grouped by the view
abbrev pub relation_rows : Option ℕ → Lineage → List Row → Bool → List Row
relation_rows view l rows true = rows
relation_rows view l rows false = derived (columns_of l) rows (view_at l view)

-- What the rows of an input's file are in the queried relation.
abbrev pub rows_pinned : {R : Type 0} → Option ℕ → PinnedInput R → List Row → List Row
rows_pinned view i rows = relation_rows view (lineage_of i.input) (lifted_in i.input rows) i.own
