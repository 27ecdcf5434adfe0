-- Rows that are regrouped, and regrouped again by some of their columns.
use Rattle.std.proofs.Common.{◌≡◌, ℕ, suc, List, [], ◌∷◌, map, length, drop, refl, sym, ◌∙◌, ap, true}
use Rattle.std.specs.List.{concat}
use Rattle.std.proofs.lemmas.List.{length-map}
use Rattle.mesa_fold.specs.mesa_key.declared.KeyType.{KeyType}
use Rattle.mesa_fold.specs.mesa_key.declared.KeyValue.{KeyValue}
use Rattle.mesa_fold.specs.mesa_key.Spelling.{column_length, columns_of as key_columns, key_of, key_spelling, value_spelling}
use Rattle.mesa_columns.specs.declared.columns.KeyColumn.{KeyColumn}
use Rattle.mesa_columns.specs.declared.columns.ValueColumn.{ValueColumn}
use Rattle.mesa_columns.specs.declared.rows.Row.{Row}
use Rattle.mesa_columns.specs.declared.views.View.{View}
use Rattle.mesa_columns.specs.Columns.{Columns, aggs_of, chosen, key_names, kinds_of, places_in, value_names}
use Rattle.mesa_schema.specs.Views.{view_key_places, view_value_places}
use Rattle.mesa_fold.specs.Folded.{regrouped}
use Rattle.mesa_columns.specs.Rows.{AreRowsOf, IsRowOf}
use Rattle.mesa_fold.proofs.GroupKeys.{chosen_key, chosen_mapped, columns_spelled, concat_spelled, regrouped_form}
use Rattle.mesa_columns.proofs.Lists.{all_map, all_so}
use Rattle.mesa_schema.specs.Recasts.{Recast, recast_columns, recast_keys, recast_values}
use Rattle.mesa_schema.proofs.ChosenAgain.{names_chosen, there, through}

-- ---- the columns of a regrouped key

pub columns_count : (types : List KeyType) (bytes : List ℕ) → length (key_columns types bytes) ≡ length types
columns_count [] bytes = refl
columns_count (type ∷ types) bytes = ap suc (columns_count types (drop (column_length type bytes) bytes))

parts_of : (s : Columns) (row : Row) → IsRowOf s row → key_columns (kinds_of s) row.key ≡ map value_spelling (key_of (kinds_of s) row.key)
parts_of s row form = ap (key_columns (kinds_of s)) (sym form.spelled) ∙ columns_spelled (kinds_of s) (key_of (kinds_of s) row.key) form.key

pub bytes_of : (s : Columns) (columns values : List ℕ) (row : Row) → IsRowOf s row → (regrouped s columns values row).key ≡ key_spelling (chosen columns (key_of (kinds_of s) row.key))
bytes_of s columns values row form =
    let key : List KeyValue = key_of (kinds_of s) row.key in
    ap (λ ps. concat (chosen columns ps)) (parts_of s row form) ∙ ap (λ (ps : List (List ℕ)). concat ps) (chosen_mapped value_spelling columns key) ∙ concat_spelled (chosen columns key)

-- They are the chosen columns of the key.
pub regrouped_columns : (s : Columns) (columns values : List ℕ) (row : Row) → IsRowOf s row
    → key_columns (chosen columns (kinds_of s)) (regrouped s columns values row).key ≡ chosen columns (key_columns (kinds_of s) row.key)
regrouped_columns s columns values row form =
    let kinds : List KeyType = kinds_of s in
    let key : List KeyValue = key_of kinds row.key in
    ap (key_columns (chosen columns kinds)) (bytes_of s columns values row form)
    ∙ columns_spelled (chosen columns kinds) (chosen columns key) (chosen_key columns kinds key form.key)
    ∙ sym (chosen_mapped value_spelling columns key)
    ∙ ap (chosen columns) (sym (parts_of s row form))

-- ---- the columns of a recast

pub kinds_recast : (s : Columns) (r : Recast) → chosen (recast_keys s r) (kinds_of s) ≡ kinds_of (recast_columns s r)
kinds_recast s r = chosen_mapped (λ (c : KeyColumn). c.kind) (recast_keys s r) s.keys

pub aggs_recast : (s : Columns) (r : Recast) → chosen (recast_values s r) (aggs_of s) ≡ aggs_of (recast_columns s r)
aggs_recast s r = chosen_mapped (λ (c : ValueColumn). c.agg) (recast_values s r) s.values

-- Rows that are regrouped by a recast's columns have their form.
pub rows_form : (s : Columns) (r : Recast) (rows : List Row) → AreRowsOf s rows → AreRowsOf (recast_columns s r) (map (regrouped s (recast_keys s r) (recast_values s r)) rows)
rows_form s r rows all =
    all_map (IsRowOf (recast_columns s r)) (regrouped s (recast_keys s r) (recast_values s r)) rows
    (all_so (IsRowOf s) (λ (row : Row). IsRowOf (recast_columns s r) (regrouped s (recast_keys s r) (recast_values s r) row)) rows (regrouped_form s (recast_keys s r) (recast_values s r)) all)

-- ---- regrouped again

module _ (s : Columns) (r : Recast) (v : View) (keys : there (key_names s) r.keys ≡ true) (values : there (value_names s) r.values ≡ true) (own_keys : there r.keys v.keys ≡ true) (own_values : there r.values v.values ≡ true) where
  pub key_names_recast : key_names (recast_columns s r) ≡ r.keys
  key_names_recast = names_chosen (λ (c : KeyColumn). c.name) s.keys r.keys keys

  pub value_names_recast : value_names (recast_columns s r) ≡ r.values
  value_names_recast = names_chosen (λ (c : ValueColumn). c.name) s.values r.values values

  -- what a view chooses among the key columns of the recast
  pub keys_again : {X : Type 0} (xs : List X) → length s.keys ≡ length xs → chosen (view_key_places (recast_columns s r) v) (chosen (recast_keys s r) xs) ≡ chosen (view_key_places s v) xs
  keys_again xs len = ap (λ names. chosen (places_in names v.keys) (chosen (recast_keys s r) xs)) key_names_recast ∙ through (key_names s) r.keys v.keys xs (length-map s.keys (λ (c : KeyColumn). c.name) ∙ len) keys own_keys

  -- and among its value columns
  pub values_again : {X : Type 0} (xs : List X) → length s.values ≡ length xs → chosen (view_value_places (recast_columns s r) v) (chosen (recast_values s r) xs) ≡ chosen (view_value_places s v) xs
  values_again xs len = ap (λ names. chosen (places_in names v.values) (chosen (recast_values s r) xs)) value_names_recast ∙ through (value_names s) r.values v.values xs (length-map s.values (λ (c : ValueColumn). c.name) ∙ len) values own_values

  -- A row that is regrouped by the recast and then by a view is regrouped by the view.
  pub row_again : (row : Row) → IsRowOf s row
      → regrouped (recast_columns s r) (view_key_places (recast_columns s r) v) (view_value_places (recast_columns s r) v) (regrouped s (recast_keys s r) (recast_values s r) row) ≡ regrouped s (view_key_places s v) (view_value_places s v) row
  row_again row form =
      let now : Row = regrouped s (recast_keys s r) (recast_values s r) row in
      let count : length s.keys ≡ length (key_columns (kinds_of s) row.key) = sym (columns_count (kinds_of s) row.key ∙ length-map s.keys (λ (c : KeyColumn). c.kind)) in
      let columns : key_columns (kinds_of (recast_columns s r)) now.key ≡ chosen (recast_keys s r) (key_columns (kinds_of s) row.key) =
      ap (λ kinds. key_columns kinds now.key) (sym (kinds_recast s r)) ∙ regrouped_columns s (recast_keys s r) (recast_values s r) row form in
      λ i. record {
        key = concat ((ap (chosen (view_key_places (recast_columns s r) v)) columns ∙ keys_again (key_columns (kinds_of s) row.key) count) i);
        values = values_again row.values (sym form.values) i;
      }
