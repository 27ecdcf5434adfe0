-- Further orders: a view whose keys are all key columns of its table has the table's rows in an order of its own, and a query of the table may be answered by it.
use Rattle.std.specs.Prelude.{ℕ, List, [], ◌∷◌, map, filter, length, max, position, slice_index_or, take_while, Bool, true, false, ◌&&◌, ◌==◌, not, if◌then◌else◌, Option, Some, None, Result, Ok}
use Rattle.std.specs.List.{list_all, list_any, enumerate_from}
use Rattle.mesa_batch.specs.mesa_list.Checks.{◌>>=◌, refused_as}
use Rattle.mesa_columns.specs.declared.columns.ValueColumn.{ValueColumn}
use Rattle.mesa_columns.specs.declared.views.View.{View}
use Rattle.mesa_columns.specs.Columns.{Columns, is_replace}
use Rattle.mesa_batch.specs.mesa_schema.Changes.{columns_of}
use Rattle.mesa_batch.specs.mesa_schema.Views.{view_key_places, view_value_places}
use Rattle.mesa_filter.specs.declared.terms.Comparison.{Comparison}
use Rattle.mesa_filter.specs.declared.terms.Comparison.TheVariants as op
use Rattle.mesa_filter.specs.declared.terms.Term.{Term}
use Rattle.mesa_filter.specs.Asked.{filter_refusal, lists_all_keys, places_below}
use Rattle.mesa_filter.specs.Filter.{filter_of}
use Rattle.mesa_model.specs.declared.replies.Refusal.{Refusal}
use Rattle.mesa_model.specs.Warehouse.{Table}
use Rattle.mesa_model.specs.Relations.{Relation, relation_columns}
use Rattle.mesa_model.specs.Refusals.{query_refusal}

-- ---- which orders may answer

-- a view has every key column of its table
abbrev pub is_further_order : Columns → View → Bool
is_further_order s v = lists_all_keys s (view_key_places s v)

-- a place is among these
abbrev pub has_place : List ℕ → ℕ → Bool
has_place places place = list_any (λ p. p == place) places

-- a further order that has every value asked
abbrev pub is_candidate : Columns → List ℕ → View → Bool
is_candidate s values v = is_further_order s v && list_all (has_place (view_value_places s v)) values

-- ---- the choice

abbrev is_equal : Comparison → Bool
is_equal comparison = elim comparison [ op.Equal ↦ true | op.AtMost ↦ false | op.AtLeast ↦ false | op.Less ↦ false | op.Greater ↦ false ]

-- whether a key column has a term with `=`
abbrev pub has_equal : List Term → ℕ → Bool
has_equal terms place = list_any (λ (t : Term). (t.column == place) && is_equal t.comparison) terms

-- how many of the leading key columns of an order have one
abbrev pub leading : List Term → List ℕ → ℕ
leading terms keys = length (take_while (has_equal terms) keys)

-- the table's score
abbrev pub table_score : Columns → List Term → ℕ
table_score s terms = leading terms (places_below s.keys)

-- a view's score: nothing where it can't answer
abbrev pub view_score : Columns → List ℕ → List Term → View → ℕ
view_score s values terms v = if is_candidate s values v then leading terms (view_key_places s v) else 0

-- the greatest score
abbrev pub best_score : Columns → List ℕ → List Term → List View → ℕ
best_score s values terms [] = table_score s terms
best_score s values terms (v ∷ views) = max (view_score s values terms v) (best_score s values terms views)

-- Choice: by which view a query of a table is answered that asks for these values and has these terms: one with the greatest score; the table where it has that, and then the first view.
abbrev pub choice : Columns → List View → List ℕ → List Term → Option ℕ
choice s views values terms =
    if table_score s terms == best_score s values terms views then None
    else position (λ v. is_candidate s values v && (view_score s values terms v == best_score s values terms views)) views

-- ---- what is told of it

abbrev is_kept : ValueColumn → Bool
is_kept column = not (is_replace column)

-- the places of the value columns but the replace columns
abbrev pub values_told : Columns → List ℕ
values_told s = map (λ (p : ℕ × ValueColumn). p.0) (filter (λ (p : ℕ × ValueColumn). is_kept p.1) (enumerate_from 0 s.values))

-- the name of a table, or of the view of a number
abbrev pub order_named : Table → Option ℕ → List ℕ
order_named t None = t.name
order_named t (Some number) = slice_index_or (map (λ (v : View). v.name) t.lineage.views) number []

-- by which relation a query of a table with these terms is answered that asks for all values but the replace columns'; a view answers itself
abbrev pub order_of : Table → Option View → List Term → List ℕ
order_of t None terms = order_named t (choice (columns_of t.lineage) t.lineage.views (values_told (columns_of t.lineage)) terms)
order_of t (Some v) terms = v.name

-- The name of the relation by which a query with this filter is answered, where one is named, or the filter's refusal.
abbrev pub order_asked : Relation → Option (List ℕ) → Result (Option (List ℕ)) Refusal
order_asked r None = Ok None
order_asked r (Some words) = do
  terms ← refused_as query_refusal (refused_as filter_refusal (filter_of (relation_columns r) words))
  Ok (Some (order_of r.table r.view terms))
