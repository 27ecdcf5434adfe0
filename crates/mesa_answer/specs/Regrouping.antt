-- Rows of a table as rows of a view.
use Rattle.std.specs.Prelude.{ℕ, List}
use Rattle.std.specs.List.{concat}
use Rattle.mesa_key.specs.declared.KeyType.{KeyType}
use Rattle.mesa_key.specs.Spelling.{columns_of}
use Rattle.mesa_model.specs.mesa_columns.declared.rows.Row.{Row}
use Rattle.mesa_model.specs.mesa_columns.declared.views.View.{View}
use Rattle.mesa_model.specs.mesa_columns.Columns.{Columns, chosen, kinds_of}
use Rattle.mesa_schema.specs.Views.{view_key_places, view_value_places}

-- Which columns of a table a view has: the types of the table's key columns, and the places of the view's key columns and value columns among the table's.
pub record PlacesSeen : Type 0 where
  pub kinds : List KeyType
  pub columns : List ℕ
  pub values : List ℕ

-- those of a view of a table with these columns
abbrev pub places_seen : Columns → View → PlacesSeen
places_seen s v = record { kinds = kinds_of s; columns = view_key_places s v; values = view_value_places s v }

-- a row of the table under the view's key, with the view's values
abbrev pub row_under : PlacesSeen → Row → Row
row_under p row = record { key = concat (chosen p.columns (columns_of p.kinds row.key)); values = chosen p.values row.values }
