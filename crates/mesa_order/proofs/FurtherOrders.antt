-- A query of a table, asked of a further order.
use Rattle.std.proofs.Common.{◌≡◌, ℕ, zero, suc, ◌+◌, ◌<◌, List, [], ◌∷◌, map, length, Bool, true, false, cond, refl, sym, ◌∙◌, ap, subst, arith, Option, Some, None, slice_get, nat_lt}
use Rattle.std.specs.Prelude.{◌&&◌, IfSome, filter}
use Rattle.std.specs.List.{AllByRecursion, concat, cons_option, enumerate_from, list_all}
use Rattle.std.proofs.lemmas.Bool.{ltb-true}
use Rattle.std.proofs.lemmas.List.{append-nil, length-map}
use Rattle.std.proofs.lemmas.Simd.{map-map}
use Rattle.mesa_model.specs.mesa_value.Agg.{IsOrderless}
use Rattle.mesa_model.specs.mesa_key.declared.KeyType.{KeyType}
use Rattle.mesa_model.specs.mesa_key.declared.KeyValue.{KeyValue}
use Rattle.mesa_model.specs.mesa_key.Spelling.{IsKey, columns_of as key_columns, key_of, key_spelling}
use Rattle.mesa_model.proofs.mesa_key.Keys.{key_again}
use Rattle.mesa_model.specs.mesa_columns.declared.columns.KeyColumn.{KeyColumn}
use Rattle.mesa_model.specs.mesa_columns.declared.columns.ValueColumn.{ValueColumn}
use Rattle.mesa_model.specs.mesa_columns.declared.rows.Row.{Row}
use Rattle.mesa_model.specs.mesa_columns.declared.views.View.{View}
use Rattle.mesa_model.specs.mesa_columns.declared.views.ViewError.TheVariants.{NoKey, NoValue}
use Rattle.mesa_model.specs.mesa_columns.Columns.{Columns, aggs_of, chosen, key_names, kinds_of, value_names}
use Rattle.mesa_model.specs.mesa_fold.Folded.{folded, grouped, regrouped, rows_of}
use Rattle.mesa_schema.specs.Lineages.{is_view_of}
use Rattle.mesa_schema.specs.Recasts.{Recast}
use Rattle.mesa_model.specs.mesa_columns.Rows.{AreRowsOf, IsRowOf}
use Rattle.mesa_schema.specs.Views.{values_named, view_columns, view_key_places, view_rows, view_value_places}
use Rattle.mesa_schema.proofs.ChosenAgain.{both, choice_there, places_within}
use Rattle.mesa_model.proofs.mesa_fold.FilteredFolds.{filtered_folds}
use Rattle.mesa_model.proofs.mesa_fold.Folds.{folded-folded}
use Rattle.mesa_model.proofs.mesa_fold.GroupedFolds.{groups_folded}
use Rattle.mesa_model.proofs.mesa_fold.GroupKeys.{chosen_key, chosen_mapped}
use Rattle.mesa_model.proofs.mesa_columns.Lists.{same_maps}
use Rattle.mesa_schema.proofs.Outlasting.{asks, orderless}
use Rattle.mesa_schema.proofs.Regrouping.{bytes_of, columns_count, regrouped_columns, rows_form}
use Rattle.mesa_filter.specs.declared.terms.Term.{Term}
use Rattle.mesa_filter.specs.Among.{Holds, term_among}
use Rattle.mesa_filter.specs.Asked.{Asked}
use Rattle.mesa_filter.specs.Filter.{are_within, meets, meets_term, value_meets}
use Rattle.mesa_filter.proofs.PlacesAmong.{chosen_among, slot_among}
use Rattle.mesa_model.specs.Orders.{has_place, is_further_order}
use Rattle.mesa_model.specs.Query.{answer_rows}
use Rattle.mesa_order.specs.Order.{AnswersThrough, IsAskedOf, asked_through}

-- ---- what a candidate has

-- a test that all numbers below a length pass is passed by each
below_from : {X : Type 0} (p : ℕ → Bool) (n : ℕ) (xs : List X) (i : ℕ) → list_all p (map (λ (x : ℕ × X). x.0) (enumerate_from n xs)) ≡ true → i < length xs → p (n + i) ≡ true
below_from p n [] i all lt = absurd (omega (arith, lt))
below_from p n (x ∷ xs) zero all lt =
    let here : n ≡ n + 0 = omega arith in
    subst (λ m. p m ≡ true) here (both (p n) _ all).0
below_from {X = X} p n (x ∷ xs) (suc i) all lt =
    let next : n + 1 + i ≡ n + suc i = omega arith in
    subst (λ m. p m ≡ true) next (below_from p (n + 1) xs i (both (p n) (list_all p (map (λ (y : ℕ × X). y.0) (enumerate_from (n + 1) xs))) all).1 (omega (arith, lt)))

-- a further order holds each key column
pub holds_keys : (s : Columns) (v : View) → is_further_order s v ≡ true → (place : ℕ) → place < length s.keys → Holds (view_key_places s v) place
holds_keys s v further place lt =
    let own : 0 + place ≡ place = omega arith in
    subst (λ p. has_place (view_key_places s v) p ≡ true) own (below_from (has_place (view_key_places s v)) 0 s.keys place further lt)

pub holds_values : (places values : List ℕ) → list_all (has_place places) values ≡ true → AllByRecursion (Holds places) values
holds_values places [] all = tt
holds_values places (value ∷ values) all = let parts = both (has_place places value) (list_all (has_place places) values) all in (parts.0, holds_values places values parts.1)

-- ---- lists

at_place : {X : Type 0} (P : X → Type 0) (xs : List X) (place : ℕ) → AllByRecursion P xs → IfSome (slice_get xs place) P
at_place P [] place all = tt
at_place P (x ∷ xs) zero all = all.0
at_place P (x ∷ xs) (suc place) all = at_place P xs place all.1

all_option : {X : Type 0} (P : X → Type 0) (o : Option X) (xs : List X) → IfSome o P → AllByRecursion P xs → AllByRecursion P (cons_option o xs)
all_option P None xs h all = all
all_option P (Some x) xs h all = (h, all)

pub all_chosen : {X : Type 0} (P : X → Type 0) (places : List ℕ) (xs : List X) → AllByRecursion P xs → AllByRecursion P (chosen places xs)
all_chosen P [] xs all = tt
all_chosen P (place ∷ places) xs all = all_option P (slice_get xs place) (chosen places xs) (at_place P xs place all) (all_chosen P places xs all)

key_count : (types : List KeyType) (key : List KeyValue) → IsKey types key → length key ≡ length types
key_count [] [] is = refl
key_count [] (v ∷ key) is = absurd is
key_count (t ∷ types) [] is = absurd is
key_count (t ∷ types) (v ∷ key) is = ap suc (key_count types key is.1)

all_filtered : (P : Row → Type 0) (p : Row → Bool) (rows : List Row) → AllByRecursion P rows → AllByRecursion P (filter p rows)
all_filtered P p [] all = tt
all_filtered P p (row ∷ rows) all = elim (p row) as (λ b. AllByRecursion P (cond b (row ∷ filter p rows) (filter p rows))) [
  | true ↦ (all.0, all_filtered P p rows all.1)
  | false ↦ all_filtered P p rows all.1
]

-- rows may be filtered before they are mapped or after it
filter_mapped : (P : Row → Type 0) (f : Row → Row) (p q : Row → Bool) (rows : List Row) → ((row : Row) → P row → p (f row) ≡ q row) → AllByRecursion P rows → filter p (map f rows) ≡ map f (filter q rows)
filter_mapped P f p q [] same all = refl
filter_mapped P f p q (row ∷ rows) same all =
    ap (λ b. cond b (f row ∷ filter p (map f rows)) (filter p (map f rows))) (same row all.0)
    ∙ ap (λ rest. cond (q row) (f row ∷ rest) rest) (filter_mapped P f p q rows same all.1)
    ∙ elim (q row) as (λ b. cond b (f row ∷ map f (filter q rows)) (map f (filter q rows)) ≡ map f (cond b (row ∷ filter q rows) (filter q rows))) [ true ↦ refl | false ↦ refl ]

-- ---- the law

module _ (s : Columns) (v : View) (asked : Asked) (ok : is_view_of s v ≡ true) (further : (place : ℕ) → place < length s.keys → Holds (view_key_places s v) place) (values_held : AllByRecursion (Holds (view_value_places s v)) asked.values) (is : IsAskedOf s asked) where
  abbrev r : Recast
  r = record { keys = v.keys; values = v.values }

  abbrev now : Columns
  now = view_columns s v

  abbrev K : List ℕ
  K = view_key_places s v

  abbrev V : List ℕ
  V = view_value_places s v

  abbrev its : Asked
  its = asked_through s v asked

  within_keys : {X : Type 0} (xs : List X) → length s.keys ≡ length xs → list_all (λ p. nat_lt p (length xs)) K ≡ true
  within_keys xs len = places_within (key_names s) xs v.keys (length-map s.keys (λ (c : KeyColumn). c.name) ∙ len) (choice_there (key_names s) NoKey v.keys (asks s v ok).keys)

  within_values : {X : Type 0} (xs : List X) → length s.values ≡ length xs → list_all (λ p. nat_lt p (length xs)) V ≡ true
  within_values xs len = places_within (value_names s) xs v.values (length-map s.values (λ (c : ValueColumn). c.name) ∙ len) (choice_there (value_names s) NoValue v.values (asks s v ok).values)

  held_by : (places : List ℕ) → list_all (λ p. nat_lt p (length s.keys)) places ≡ true → AllByRecursion (Holds K) places
  held_by [] all = tt
  held_by (p ∷ places) all =
      let parts = both (nat_lt p (length s.keys)) (list_all (λ q. nat_lt q (length s.keys)) places) all in
      (further p (ltb-true p (length s.keys) parts.0), held_by places parts.1)

  kinds_now : kinds_of now ≡ chosen K (kinds_of s)
  kinds_now = sym (chosen_mapped (λ (c : KeyColumn). c.kind) K s.keys)

  aggs_now : aggs_of now ≡ chosen V (aggs_of s)
  aggs_now = sym (chosen_mapped (λ (c : ValueColumn). c.agg) V s.values)

  -- ---- the filter

  key_now : (row : Row) → IsRowOf s row → key_of (kinds_of now) (regrouped s K V row).key ≡ chosen K (key_of (kinds_of s) row.key)
  key_now row form =
      let key : List KeyValue = key_of (kinds_of s) row.key in
      ap (λ types. key_of types (regrouped s K V row).key) kinds_now
      ∙ ap (key_of (chosen K (kinds_of s))) (bytes_of s K V row form ∙ sym (append-nil (key_spelling (chosen K key))))
      ∙ key_again (chosen K (kinds_of s)) (chosen K key) [] (chosen_key K (kinds_of s) key form.key)

  meets_moved : (o : Option KeyValue) (term : Term) → value_meets o (term_among K term) ≡ value_meets o term
  meets_moved None term = refl
  meets_moved (Some x) term = refl

  meets_now : (key : List KeyValue) (terms : List Term) → length s.keys ≡ length key → are_within (kinds_of s) terms ≡ true → meets (chosen K key) (map (term_among K) terms) ≡ meets key terms
  meets_now key [] len all = refl
  meets_now key (term ∷ terms) len all =
      let parts = both (nat_lt term.column (length (kinds_of s))) (are_within (kinds_of s) terms) all in
      let count : length (kinds_of s) ≡ length s.keys = length-map s.keys (λ (c : KeyColumn). c.kind) in
      let lt = ltb-true term.column (length (kinds_of s)) parts.0 in
      let one : meets_term (chosen K key) (term_among K term) ≡ meets_term key term =
      ap (λ o. value_meets o (term_among K term)) (slot_among K key term.column (within_keys key len) (further term.column (omega (arith, lt, count)))) ∙ meets_moved (slice_get key term.column) term in
      λ i. one i && meets_now key terms len parts.1 i

  passes_now : (row : Row) → IsRowOf s row → meets (key_of (kinds_of now) (regrouped s K V row).key) its.terms ≡ meets (key_of (kinds_of s) row.key) asked.terms
  passes_now row form =
      ap (λ key. meets key its.terms) (key_now row form)
      ∙ meets_now (key_of (kinds_of s) row.key) asked.terms (sym (key_count (kinds_of s) (key_of (kinds_of s) row.key) form.key ∙ length-map s.keys (λ (c : KeyColumn). c.kind))) is.terms

  -- ---- grouped again

  row_again : (row : Row) → IsRowOf s row → regrouped now its.columns its.values (regrouped s K V row) ≡ regrouped s asked.columns asked.values row
  row_again row form =
      let mine : Row = regrouped s K V row in
      let count : length s.keys ≡ length (key_columns (kinds_of s) row.key) = sym (columns_count (kinds_of s) row.key ∙ length-map s.keys (λ (c : KeyColumn). c.kind)) in
      let columns : key_columns (kinds_of now) mine.key ≡ chosen K (key_columns (kinds_of s) row.key) =
      ap (λ kinds. key_columns kinds mine.key) kinds_now ∙ regrouped_columns s K V row form in
      λ i. record {
        key = concat ((ap (chosen its.columns) columns ∙ chosen_among K asked.columns (key_columns (kinds_of s) row.key) (within_keys (key_columns (kinds_of s) row.key) count) (held_by asked.columns is.columns)) i);
        values = chosen_among V asked.values row.values (within_values row.values (sym form.values)) values_held i;
      }

  pub same_answer : (rows : List Row) → AreRowsOf s rows → answer_rows now its (view_rows s v rows) ≡ answer_rows s asked rows
  same_answer rows all =
      let place : Row → Row = regrouped s K V in
      let again : Row → Row = regrouped now its.columns its.values in
      let Later : Row → Bool = λ row. meets (key_of (kinds_of now) row.key) its.terms in
      let Before : Row → Bool = λ row. meets (key_of (kinds_of s) row.key) asked.terms in
      let some : List Row = filter Before rows in
      let some_form : AreRowsOf s some = all_filtered (IsRowOf s) Before rows all in
      let parts : List (List Row) = map place some ∷ [] in
      let aggs : chosen its.values (aggs_of now) ≡ chosen asked.values (aggs_of s) =
      ap (chosen its.values) aggs_now ∙ chosen_among V asked.values (aggs_of s) (within_values (aggs_of s) (sym (length-map s.values (λ (c : ValueColumn). c.agg)))) values_held in
      let free : AllByRecursion IsOrderless (chosen its.values (aggs_of now)) = all_chosen IsOrderless its.values (aggs_of now) (orderless (values_named s v.values) (asks s v ok).free) in
      let forms : AreRowsOf now (rows_of parts) = subst (AreRowsOf now) (sym (append-nil (map place some))) (rows_form s r some some_form) in
      ap (λ gs. grouped now its.columns its.values (filter Later (folded gs (map place rows ∷ [])))) (sym aggs_now)
      ∙ ap (grouped now its.columns its.values) (filtered_folds (λ key. meets (key_of (kinds_of now) key) its.terms) (aggs_of now) (map place rows ∷ []))
      ∙ ap (λ xs. grouped now its.columns its.values (folded (aggs_of now) (xs ∷ []))) (filter_mapped (IsRowOf s) place Later Before rows passes_now all)
      ∙ groups_folded now its.columns its.values parts free forms
      ∙ folded-folded (chosen its.values (aggs_of now)) (map again (map place some) ∷ []) []
      ∙ (λ i. folded (aggs i) ((map-map again place some ∙ same_maps (IsRowOf s) (λ row. again (place row)) (regrouped s asked.columns asked.values) some row_again some_form) i ∷ []))

-- A query of a table may be asked of a further order that has every value asked.
pub answers_through : AnswersThrough
answers_through s v asked rows ok candidate is all =
    let parts = both (is_further_order s v) (list_all (has_place (view_value_places s v)) asked.values) candidate in
    same_answer s v asked ok (holds_keys s v parts.0) (holds_values (view_value_places s v) asked.values parts.1) is rows all
