-- A query that is asked of a further order is one of it.
use Rattle.std.proofs.Common.{◌≡◌, ℕ, zero, suc, ◌<◌, List, [], ◌∷◌, length, Bool, true, false, cond, refl, sym, ◌∙◌, ap, subst, arith, Option, Some, None, Result, Ok, Err, find, nat_lt, slice_get}
use Rattle.std.specs.Prelude.{IfOk, IsTrue}
use Rattle.std.specs.List.{AllByRecursion, list_all}
use Rattle.std.proofs.lemmas.Bool.{ltb-true}
use Rattle.std.proofs.lemmas.List.{length-map}
use Rattle.mesa_model.specs.mesa_columns.declared.columns.KeyColumn.{KeyColumn}
use Rattle.mesa_model.specs.mesa_columns.declared.columns.ValueColumn.{ValueColumn}
use Rattle.mesa_model.specs.mesa_columns.declared.views.View.{View}
use Rattle.mesa_model.specs.mesa_columns.declared.views.ViewError.TheVariants.{NoKey, NoValue}
use Rattle.mesa_model.specs.mesa_columns.Columns.{Columns, chosen, is_replace, key_names, kinds_of, value_names}
use Rattle.mesa_schema.specs.Lineages.{is_view_of}
use Rattle.mesa_schema.specs.Views.{values_named, view_columns, view_key_places, view_value_places}
use Rattle.mesa_schema.proofs.ChosenAgain.{both, choice_there, places_within}
use Rattle.mesa_model.proofs.mesa_fold.GroupKeys.{chosen_mapped}
use Rattle.mesa_schema.proofs.Outlasting.{asks}
use Rattle.mesa_filter.specs.declared.terms.Term.{Term}
use Rattle.mesa_filter.specs.Among.{Holds}
use Rattle.mesa_filter.specs.Asked.{lists_all_keys}
use Rattle.mesa_filter.specs.Filter.{are_within}
use Rattle.mesa_filter.specs.Query.{BuiltQuery, IsQueryOf, are_places}
use Rattle.mesa_filter.proofs.PlacesAmong.{moved_places}
use Rattle.mesa_model.specs.Orders.{has_place, is_candidate, is_further_order}
use Rattle.mesa_order.specs.Order.{query_through}
use Rattle.mesa_order.proofs.FurtherOrders.{all_chosen, holds_keys, holds_values}

-- ---- no replace column is among those of a view

none_replaces : (columns : List ValueColumn) → find is_replace columns ≡ None → AllByRecursion (λ c. is_replace c ≡ false) columns
none_replaces [] none = tt
none_replaces (c ∷ columns) none = by (is_replace c) refl (λ rest. none_replaces columns rest)
  where
    by : (b : Bool) → is_replace c ≡ b → (find is_replace columns ≡ None → AllByRecursion (λ c. is_replace c ≡ false) columns) → AllByRecursion (λ c. is_replace c ≡ false) (c ∷ columns)
    by true e later = let some : find is_replace (c ∷ columns) ≡ Some c = ap (λ b. cond b (Some c) (find is_replace columns)) e in cc
    by false e later = (e, later (sym (ap (λ b. cond b (Some c) (find is_replace columns)) e) ∙ none))

finds_none : (columns : List ValueColumn) → AllByRecursion (λ c. is_replace c ≡ false) columns → find is_replace columns ≡ None
finds_none [] all = refl
finds_none (c ∷ columns) all = ap (λ b. cond b (Some c) (find is_replace columns)) all.0 ∙ finds_none columns all.1

either_none : {X : Type 0} (b : Bool) (o : Option X) → o ≡ None → cond b None o ≡ None
either_none true o e = refl
either_none false o e = e

-- ---- what is asked is held

-- What may be asked of the view: its key columns are columns of the query, and the view has what it asks.
pub record MayAsk (keys : List ℕ) (q : BuiltQuery) : Type 0 where
  pub there : IsTrue (are_places q.kinds keys)
  pub columns : AllByRecursion (Holds keys) q.asked.columns
  pub terms : AllByRecursion (λ (t : Term). Holds keys t.column) q.asked.terms

module _ (s : Columns) (v : View) (q : BuiltQuery) (ok : is_view_of s v ≡ true) (candidate : is_candidate s q.asked.values v ≡ true) (of_table : IsQueryOf s q) where
  abbrev K : List ℕ
  K = view_key_places s v

  abbrev V : List ℕ
  V = view_value_places s v

  further : (place : ℕ) → place < length s.keys → Holds K place
  further = holds_keys s v (both (is_further_order s v) (list_all (has_place V) q.asked.values) candidate).0

  values_held : AllByRecursion (Holds V) q.asked.values
  values_held = holds_values V q.asked.values (both (is_further_order s v) (list_all (has_place V) q.asked.values) candidate).1

  kinds_count : length (kinds_of s) ≡ length s.keys
  kinds_count = length-map s.keys (λ (c : KeyColumn). c.kind)

  keys_within : list_all (λ p. nat_lt p (length s.keys)) K ≡ true
  keys_within = places_within (key_names s) s.keys v.keys (length-map s.keys (λ (c : KeyColumn). c.name)) (choice_there (key_names s) NoKey v.keys (asks s v ok).keys)

  values_within : list_all (λ p. nat_lt p (length s.values)) V ≡ true
  values_within = places_within (value_names s) s.values v.values (length-map s.values (λ (c : ValueColumn). c.name)) (choice_there (value_names s) NoValue v.values (asks s v ok).values)

  columns_held : (places : List ℕ) → list_all (λ p. nat_lt p (length s.keys)) places ≡ true → AllByRecursion (Holds K) places
  columns_held [] all = tt
  columns_held (p ∷ places) all =
      let parts = both (nat_lt p (length s.keys)) (list_all (λ q. nat_lt q (length s.keys)) places) all in
      (further p (ltb-true p (length s.keys) parts.0), columns_held places parts.1)

  terms_held : (terms : List Term) → are_within (kinds_of s) terms ≡ true → AllByRecursion (λ (t : Term). Holds K t.column) terms
  terms_held [] all = tt
  terms_held (term ∷ terms) all =
      let parts = both (nat_lt term.column (length (kinds_of s))) (are_within (kinds_of s) terms) all in
      let less : term.column < length (kinds_of s) = ltb-true term.column (length (kinds_of s)) parts.0 in
      (further term.column (omega (arith, less, kinds_count)), terms_held terms parts.1)

  pub may_ask : are_within q.kinds q.asked.terms ≡ true → MayAsk K q
  may_ask within = record {
    there = subst (λ n. list_all (λ p. nat_lt p n) K ≡ true) (sym (ap length of_table.kinds ∙ kinds_count)) keys_within;
    columns = columns_held q.asked.columns of_table.columns;
    terms = terms_held q.asked.terms (subst (λ kinds. are_within kinds q.asked.terms ≡ true) of_table.kinds within);
  }

  pub of_view : IsQueryOf (view_columns s v) (query_through s v q)
  of_view =
      let now = view_columns s v in
      let its = query_through s v q in
      let free : find is_replace (chosen its.asked.values now.values) ≡ None =
      finds_none (chosen its.asked.values now.values) (all_chosen (λ c. is_replace c ≡ false) its.asked.values now.values (none_replaces (values_named s v.values) (asks s v ok).free)) in
      record {
        kinds = ap (chosen K) of_table.kinds ∙ chosen_mapped (λ (c : KeyColumn). c.kind) K s.keys;
        columns = moved_places K q.asked.columns s.keys keys_within (columns_held q.asked.columns of_table.columns);
        values = moved_places V q.asked.values s.values values_within values_held;
        replace = either_none (lists_all_keys now its.asked.columns) (find is_replace (chosen its.asked.values now.values)) free;
      }

-- ---- what is known of the view

-- a view that is there is allowed
pub allowed : (s : Columns) (views : List View) (i : ℕ) (v : View) → list_all (is_view_of s) views ≡ true → slice_get views i ≡ Some v → is_view_of s v ≡ true
allowed s [] i v all at = cc
allowed s (w ∷ views) zero v all at = let same : w ≡ v = cc in ap (is_view_of s) (sym same) ∙ (both (is_view_of s w) (list_all (is_view_of s) views) all).0
allowed s (w ∷ views) (suc i) v all at = allowed s views i v (both (is_view_of s w) (list_all (is_view_of s) views) all).1 at

pub if_ok : {T E : Type 0} (r : Result T E) (P Q : T → Type 0) → ((x : T) → P x → Q x) → IfOk r P → IfOk r Q
if_ok (Ok x) P Q f p = f x p
if_ok (Err e) P Q f p = tt
