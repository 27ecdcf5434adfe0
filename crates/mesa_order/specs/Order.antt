-- A query of a table, asked of a further order.
use Rattle.std.specs.Prelude.{◌≡◌, List, IsTrue}
use Rattle.mesa_model.specs.mesa_columns.declared.rows.Row.{Row}
use Rattle.mesa_model.specs.mesa_columns.declared.views.View.{View}
use Rattle.mesa_model.specs.mesa_columns.Columns.{Columns, kinds_of}
use Rattle.mesa_schema.specs.Lineages.{is_view_of}
use Rattle.mesa_model.specs.mesa_columns.Rows.{AreRowsOf}
use Rattle.mesa_schema.specs.Views.{view_columns, view_key_places, view_rows, view_value_places}
use Rattle.mesa_filter.specs.Among.{asked_among, query_among}
use Rattle.mesa_filter.specs.Asked.{Asked}
use Rattle.mesa_filter.specs.Filter.{are_within}
use Rattle.mesa_filter.specs.Query.{BuiltQuery, are_places}
use Rattle.mesa_model.specs.Orders.{is_candidate}
use Rattle.mesa_model.specs.Query.{answer_rows}

-- What a query of a table with these columns asks, asked of the view: the same columns, values and terms, by their places in it.
abbrev pub asked_through : Columns → View → Asked → Asked
asked_through s v asked = asked_among (view_key_places s v) (view_value_places s v) asked

-- The same query of the view. Its page and its resume keys are the table's.
abbrev pub query_through : Columns → View → BuiltQuery → BuiltQuery
query_through s v q = query_among (view_key_places s v) (view_value_places s v) q

-- What is asked of a table with these columns stands at places of it.
pub record IsAskedOf (s : Columns) (asked : Asked) : Type 0 where
  pub columns : IsTrue (are_places s.keys asked.columns)
  pub terms : IsTrue (are_within (kinds_of s) asked.terms)

-- THE LAW OF FURTHER ORDERS: for every list of a table's rows, the answer through a further order that has every value asked, over the rows of that view, is the answer over the table's.
abbrev pub AnswersThrough : Type 0
AnswersThrough = (s : Columns) (v : View) (asked : Asked) (rows : List Row) → IsTrue (is_view_of s v) → IsTrue (is_candidate s asked.values v) → IsAskedOf s asked → AreRowsOf s rows
    → answer_rows (view_columns s v) (asked_through s v asked) (view_rows s v rows) ≡ answer_rows s asked rows
