-- Views: which are allowed, their columns and their content.
use Rattle.std.specs.Prelude.{ℕ, List, [], ◌∷◌, ◌++◌, length, find, ◌==◌, Option, None, Some, is_some, Result, Ok, Err}
use Rattle.std.specs.List.{list_all}
use Rattle.mesa_fold.specs.mesa_list.Checks.{◌>>◌, refuse_if, refuse_unless}
use Rattle.mesa_columns.specs.declared.columns.ValueColumn.{ValueColumn}
use Rattle.mesa_columns.specs.declared.rows.Row.{Row}
use Rattle.mesa_columns.specs.declared.views.View.{View}
use Rattle.mesa_columns.specs.declared.views.ViewError.{ViewError}
use Rattle.mesa_columns.specs.declared.views.ViewError.TheVariants as no
use Rattle.mesa_columns.specs.Names.{has_name, repeated}
use Rattle.mesa_columns.specs.Columns.{Columns, is_replace, key_names, value_names, places_in, chosen}
use Rattle.mesa_schema.specs.Changes.{Lineage}
use Rattle.mesa_fold.specs.Folded.{grouped}

-- how many views a table may have
abbrev pub max_views : ℕ
max_views = 8

-- the value columns of these names
abbrev pub values_named : Columns → List (List ℕ) → List ValueColumn
values_named s names = chosen (places_in (value_names s) names) s.values

abbrev refuse_replace : Option ValueColumn → Result (Unit {0}) ViewError
refuse_replace None = Ok tt
refuse_replace (Some column) = Err (no.ReplaceInView column.name)

-- the names that a view chooses among those of its table's columns are there, some, and none twice
abbrev pub choice_checked : List (List ℕ) → ViewError → List (List ℕ) → Result (Unit {0}) ViewError
choice_checked names none chosen = do
  refuse_unless (list_all (λ name. has_name name names) chosen) no.NoColumn
  refuse_if (length chosen == 0) none
  refuse_if (is_some (repeated chosen)) no.NameTwice

-- the value columns that a view chooses are a choice of its table's, and none is a replace column
abbrev pub chosen_values_checked : Columns → List (List ℕ) → Result (Unit {0}) ViewError
chosen_values_checked s values = do
  choice_checked (value_names s) no.NoValue values
  refuse_replace (find is_replace (values_named s values))

-- The rules of a view of these columns in their order: its key columns are a choice of the key columns, its value columns one of the value columns, and none of these is a replace column.
abbrev pub view_checked : Columns → List (List ℕ) → List (List ℕ) → Result (Unit {0}) ViewError
view_checked s keys values = do
  choice_checked (key_names s) no.NoKey keys
  chosen_values_checked s values

-- the places of a view's columns among its table's
abbrev pub view_key_places : Columns → View → List ℕ
view_key_places s v = places_in (key_names s) v.keys

abbrev pub view_value_places : Columns → View → List ℕ
view_value_places s v = places_in (value_names s) v.values

-- The columns of a view of a table with these columns.
abbrev pub view_columns : Columns → View → Columns
view_columns s v = record { keys = chosen (view_key_places s v) s.keys; values = chosen (view_value_places s v) s.values }

-- ViewContent: a view's content is its table's content grouped by its columns.
abbrev pub view_rows : Columns → View → List Row → List Row
view_rows s v rows = grouped s (view_key_places s v) (view_value_places s v) rows

-- the lineage with a view more
abbrev pub with_view : Lineage → View → Lineage
with_view l v = record l { views = l.views ++ v ∷ [] }
