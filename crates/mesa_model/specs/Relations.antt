-- Relations: the tables and views that a query may name.
use Rattle.std.specs.Prelude.{ℕ, ◌+◌, List, [], ◌∷◌, map, Bool, if◌then◌else◌, Option, Some, None, option_map, find, is_some}
use Rattle.mesa_batch.specs.mesa_list.Bytes.{same_bytes}
use Rattle.mesa_columns.specs.declared.rows.Row.{Row}
use Rattle.mesa_columns.specs.declared.views.View.{View}
use Rattle.mesa_columns.specs.Columns.{Columns, place_of}
use Rattle.mesa_batch.specs.mesa_schema.Changes.{columns_of}
use Rattle.mesa_batch.specs.mesa_schema.Views.{view_columns, view_rows}
use Rattle.mesa_model.specs.Warehouse.{Table, Store, content_at}

-- A table, by its number, or a view of it.
pub record Relation : Type 0 where
  pub number : ℕ
  pub table : Table
  pub view : Option View

-- the number of the table of a name; a view is no table
abbrev pub table_number : Store → List ℕ → Option ℕ
table_number s name = place_of name (map (λ (t : Table). t.name) s.tables)

-- the view of a name among these
abbrev view_named : List ℕ → List View → Option View
view_named name views = find (λ (v : View). same_bytes name v.name) views

-- a table, or one of its views, by its name
abbrev relation_in : ℕ → List ℕ → Table → Option Relation
relation_in number name t =
    if same_bytes name t.name then Some (record { number = number; table = t; view = None })
    else option_map (λ view. record { number = number; table = t; view = Some view }) (view_named name t.lineage.views)

-- the same among the tables from a number on
abbrev pub relation_from : ℕ → List ℕ → List Table → Option Relation
relation_from number name [] = None
relation_from number name (t ∷ tables) = elim (relation_in number name t) [ None ↦ relation_from (number + 1) name tables | Some relation ↦ Some relation ]

-- The relation of a name: tables and views share one space of names.
abbrev pub relation_of : Store → List ℕ → Option Relation
relation_of s name = relation_from 0 name s.tables

-- whether a table or a view has this name
abbrev pub is_taken : Store → List ℕ → Bool
is_taken s name = is_some (relation_of s name)

-- a table's columns, or those of a view of it
abbrev columns_seen : Columns → Option View → Columns
columns_seen s None = s
columns_seen s (Some view) = view_columns s view

-- the columns of a relation
abbrev pub relation_columns : Relation → Columns
relation_columns r = columns_seen (columns_of r.table.lineage) r.view

-- a table's rows, or those of a view of it
abbrev rows_seen : Columns → Option View → List Row → List Row
rows_seen s None rows = rows
rows_seen s (Some view) rows = view_rows s view rows

-- The content of a relation at a version: a table's own, or for a view its table's, grouped.
abbrev pub relation_content : Relation → ℕ → List Row
relation_content r version = rows_seen (columns_of r.table.lineage) r.view (content_at r.table version)
