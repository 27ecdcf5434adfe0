-- A row under a view of all columns has its columns, in another order.
use Rattle.std.proofs.Common.{◌≡◌, ℕ, zero, suc, ◌<◌, List, [], ◌∷◌, ◌++◌, map, length, true, refl, sym, ◌∙◌, ap, subst, arith, Option, None, Some}
use Rattle.std.specs.Prelude.{ℤ, is_none, slice_get}
use Rattle.std.specs.List.{concat, cons_option}
use Rattle.std.specs.List.Sorted.{IsPermutation}
use Rattle.std.proofs.lemmas.List.{length-map}
use Rattle.std.proofs.lemmas.List.Sorted.{IsPermutation-append}
use Rattle.mesa_key.specs.declared.KeyType.{KeyType}
use Rattle.mesa_key.specs.declared.KeyValue.{KeyValue}
use Rattle.mesa_key.specs.Spelling.{columns_of, key_of, key_spelling, value_spelling}
use Rattle.mesa_columns.specs.declared.columns.KeyColumn.{KeyColumn}
use Rattle.mesa_columns.specs.declared.columns.ValueColumn.{ValueColumn}
use Rattle.mesa_columns.specs.declared.rows.Row.{Row}
use Rattle.mesa_columns.specs.declared.views.View.{View}
use Rattle.mesa_columns.specs.declared.views.ViewError.TheVariants.{NoKey, NoValue}
use Rattle.mesa_columns.specs.Columns.{Columns, chosen, key_names, kinds_of, value_names}
use Rattle.mesa_schema.specs.mesa_fold.Folded.{regrouped}
use Rattle.mesa_schema.specs.mesa_fold.Laws.{AreAllKeys}
use Rattle.mesa_schema.specs.Lineages.{is_view_of}
use Rattle.mesa_columns.specs.Rows.{IsRowOf}
use Rattle.mesa_columns.specs.Schema.{is_schema}
use Rattle.mesa_schema.specs.Views.{choice_checked, view_columns, view_key_places, view_value_places}
use Rattle.mesa_schema.proofs.Apart.{Apart, apart}
use Rattle.mesa_schema.proofs.ChosenAgain.{places_within}
use Rattle.mesa_schema.proofs.mesa_fold.GroupKeys.{chosen_key, chosen_mapped, columns_spelled, concat_spelled}
use Rattle.mesa_schema.proofs.Passing.{passed_first}
use Rattle.mesa_schema.proofs.SchemaChanges.{schema_rules}
use Rattle.mesa_schema.proofs.ViewSchemas.{IsChoice, choice}
use Rattle.mesa_digest.specs.Digests.{Cell, amount_bytes, cells, key_bytes, key_cells, key_label, value_cells, value_label}
use Rattle.mesa_digest.specs.Laws.{HasAllColumns}
use Rattle.mesa_digest.proofs.AllColumns.{all_among, any_place, chosen_all, has_at}
use Rattle.mesa_digest.proofs.Placing.{columns_count}
use Rattle.mesa_digest.proofs.Spelling.{keys_length, values_length}

-- ---- columns side by side

module _ {A B : Type 0} (f : A → B → Cell) where
  side_by_side : List A → List B → List Cell
  side_by_side [] ys = []
  side_by_side (x ∷ xs) [] = []
  side_by_side (x ∷ xs) (y ∷ ys) = f x y ∷ side_by_side xs ys

  both_of : Option A → Option B → Option Cell
  both_of None o = None
  both_of (Some x) None = None
  both_of (Some x) (Some y) = Some (f x y)

  got_both : (xs : List A) (ys : List B) (p : ℕ) → length xs ≡ length ys → slice_get (side_by_side xs ys) p ≡ both_of (slice_get xs p) (slice_get ys p)
  unfolding side_by_side both_of
  got_both [] [] p e = refl
  got_both [] (y ∷ ys) p e = refl
  got_both (x ∷ xs) [] p e = absurd (omega (arith, e))
  got_both (x ∷ xs) (y ∷ ys) zero e = refl
  got_both (x ∷ xs) (y ∷ ys) (suc p) e = got_both xs ys p (omega (arith, e))

  -- nothing stands at a place in both, or something in both
  cons_both : (xs : List A) (ys : List B) (p : ℕ) (us : List A) (vs : List B) → length xs ≡ length ys
      → side_by_side (cons_option (slice_get xs p) us) (cons_option (slice_get ys p) vs) ≡ cons_option (both_of (slice_get xs p) (slice_get ys p)) (side_by_side us vs)
  unfolding side_by_side both_of
  cons_both [] [] p us vs e = refl
  cons_both [] (y ∷ ys) p us vs e = absurd (omega (arith, e))
  cons_both (x ∷ xs) [] p us vs e = absurd (omega (arith, e))
  cons_both (x ∷ xs) (y ∷ ys) zero us vs e = refl
  cons_both (x ∷ xs) (y ∷ ys) (suc p) us vs e = cons_both xs ys p us vs (omega (arith, e))

  chosen_both : (places : List ℕ) (xs : List A) (ys : List B) → length xs ≡ length ys → side_by_side (chosen places xs) (chosen places ys) ≡ chosen places (side_by_side xs ys)
  unfolding side_by_side both_of
  chosen_both [] xs ys e = refl
  chosen_both (p ∷ places) xs ys e =
      cons_both xs ys p (chosen places xs) (chosen places ys) e
      ∙ (λ i. cons_option (sym (got_both xs ys p e) i) (chosen_both places xs ys e i))

key_cell : KeyColumn → List ℕ → Cell
key_cell k bytes = record { label = key_label k; bytes = key_bytes k.kind bytes }

value_cell : ValueColumn → ℤ → Cell
value_cell v value = record { label = value_label v; bytes = amount_bytes value }

keys_beside : (ks : List KeyColumn) (columns : List (List ℕ)) → key_cells ks columns ≡ side_by_side key_cell ks columns
unfolding side_by_side key_cell
keys_beside [] columns = refl
keys_beside (k ∷ ks) [] = refl
keys_beside (k ∷ ks) (bytes ∷ columns) = ap (λ cs. key_cell k bytes ∷ cs) (keys_beside ks columns)

values_beside : (vs : List ValueColumn) (values : List ℤ) → value_cells vs values ≡ side_by_side value_cell vs values
unfolding side_by_side value_cell
values_beside [] values = refl
values_beside (v ∷ vs) [] = refl
values_beside (v ∷ vs) (value ∷ values) = ap (λ cs. value_cell v value ∷ cs) (values_beside vs values)

-- ---- a row under a choice of columns

-- the columns of a row's key
columns_are : (s : Columns) (row : Row) → IsRowOf s row → columns_of (kinds_of s) row.key ≡ map value_spelling (key_of (kinds_of s) row.key)
columns_are s row form = ap (columns_of (kinds_of s)) (sym form.spelled) ∙ columns_spelled (kinds_of s) (key_of (kinds_of s) row.key) form.key

columns_chosen : (s : Columns) (places values : List ℕ) (row : Row) → IsRowOf s row → columns_of (chosen places (kinds_of s)) (regrouped s places values row).key ≡ chosen places (columns_of (kinds_of s) row.key)
columns_chosen s places values row form =
    let kinds : List KeyType = kinds_of s in
    let key : List KeyValue = key_of kinds row.key in
    let spelled : (regrouped s places values row).key ≡ key_spelling (chosen places key) =
    ap (λ (cs : List (List ℕ)). concat (chosen places cs)) (columns_are s row form) ∙ ap (λ (cs : List (List ℕ)). concat cs) (chosen_mapped value_spelling places key) ∙ concat_spelled (chosen places key) in
    ap (columns_of (chosen places kinds)) spelled
    ∙ columns_spelled (chosen places kinds) (chosen places key) (chosen_key places kinds key form.key)
    ∙ sym (chosen_mapped value_spelling places key)
    ∙ ap (chosen places) (sym (columns_are s row form))

chosen_keys : (s : Columns) (places values : List ℕ) (row : Row) → IsRowOf s row
    → key_cells (chosen places s.keys) (columns_of (map (λ (k : KeyColumn). k.kind) (chosen places s.keys)) (regrouped s places values row).key) ≡ chosen places (key_cells s.keys (columns_of (kinds_of s) row.key))
chosen_keys s places values row form =
    let columns : List (List ℕ) = columns_of (kinds_of s) row.key in
    let count : length s.keys ≡ length columns = sym (columns_count (kinds_of s) row.key ∙ length-map s.keys (λ (k : KeyColumn). k.kind)) in
    ap (λ kinds. key_cells (chosen places s.keys) (columns_of kinds (regrouped s places values row).key)) (sym (chosen_mapped (λ (k : KeyColumn). k.kind) places s.keys))
    ∙ ap (key_cells (chosen places s.keys)) (columns_chosen s places values row form)
    ∙ keys_beside (chosen places s.keys) (chosen places columns)
    ∙ chosen_both key_cell places s.keys columns count
    ∙ ap (chosen places) (sym (keys_beside s.keys columns))

chosen_values : (s : Columns) (places : List ℕ) (values : List ℤ) → length values ≡ length s.values → value_cells (chosen places s.values) (chosen places values) ≡ chosen places (value_cells s.values values)
chosen_values s places values e =
    values_beside (chosen places s.values) (chosen places values) ∙ chosen_both value_cell places s.values values (sym e) ∙ ap (chosen places) (sym (values_beside s.values values))

-- ---- a view of all columns

-- no name is chosen twice
chosen_apart : (names asked : List (List ℕ)) → IsChoice names asked → Apart [] asked
chosen_apart names asked is = apart [] asked (ap is_none is.apart)

view_choices : (s : Columns) (v : View) → is_view_of s v ≡ true → IsChoice (key_names s) v.keys × IsChoice (value_names s) v.values
view_choices s v h =
    let keys = passed_first (choice_checked (key_names s) NoKey v.keys) _ h in
    let values = passed_first (choice_checked (value_names s) NoValue v.values) _ keys.1 in
    (choice (key_names s) NoKey v.keys keys.0, choice (value_names s) NoValue v.values values.0)

pub moved : (s : Columns) (v : View) → is_schema s ≡ true → is_view_of s v ≡ true → HasAllColumns s v → (row : Row) → IsRowOf s row
    → IsPermutation (cells (view_columns s v) (regrouped s (view_key_places s v) (view_value_places s v) row)) (cells s row)
moved s v sound allowed has row form =
    let p : List ℕ = view_key_places s v in
    let q : List ℕ = view_value_places s v in
    let rules = schema_rules s sound in
    let choices = view_choices s v allowed in
    let no_cell : Cell = record { label = record { name = []; rank = 0 }; bytes = [] } in
    let columns : List (List ℕ) = columns_of (kinds_of s) row.key in
    let count : length columns ≡ length s.keys = columns_count (kinds_of s) row.key ∙ length-map s.keys (λ (k : KeyColumn). k.kind) in
    let keys : List Cell = key_cells s.keys columns in
    let values : List Cell = value_cells s.values row.values in
    let first : IsPermutation (chosen p keys) keys =
    chosen_all no_cell (key_names s) keys rules.key_names (keys_length s.keys columns count ∙ sym (length-map s.keys (λ (k : KeyColumn). k.name))) v.keys (chosen_apart (key_names s) v.keys choices.0) choices.0.there has.keys in
    let second : IsPermutation (chosen q values) values =
    chosen_all no_cell (value_names s) values rules.value_names (values_length s.values row.values form.values ∙ sym (length-map s.values (λ (c : ValueColumn). c.name))) v.values (chosen_apart (value_names s) v.values choices.1) choices.1.there has.values in
    subst (λ cs. IsPermutation cs (cells s row)) (λ i. sym (chosen_keys s p q row form) i ++ sym (chosen_values s q row.values form.values) i)
    (IsPermutation-append (chosen p keys) keys (chosen q values) values first second)

-- all its table's key columns are its group columns
pub all_keys : (s : Columns) (v : View) → is_schema s ≡ true → is_view_of s v ≡ true → HasAllColumns s v → AreAllKeys s (view_key_places s v)
all_keys s v sound allowed has =
    let rules = schema_rules s sound in
    let choices = view_choices s v allowed in
    record {
      places = places_within (key_names s) s.keys v.keys (length-map s.keys (λ (k : KeyColumn). k.name)) choices.0.there;
      each = λ i l.
          let within : i < length (key_names s) = omega (arith, l, length-map s.keys (λ (k : KeyColumn). k.name)) in
          any_place (key_names s) v.keys i rules.key_names within (all_among (key_names s) v.keys has.keys _ (has_at (key_names s) i within));
    }
