-- A view's columns make a schema.
use Rattle.std.proofs.Common.{◌≡◌, ℕ, zero, suc, ◌<◌, ◌≤◌, List, [], ◌∷◌, length, map, get_or, Bool, true, false, cond, refl, sym, ◌∙◌, ap, arith, Option, Some, None}
use Rattle.std.specs.Prelude.{◌&&◌, ◌||◌, ◌==◌, is_ok, is_some, nat_lt, slice_get}
use Rattle.std.specs.List.{AllByRecursion, IsDistinct, list_all, list_any}
use Rattle.std.proofs.lemmas.Cmp.{nat_list_eq_equiv}
use Rattle.std.proofs.lemmas.Map.Made.{length-le_from_is_member}
use Rattle.std.proofs.lemmas.Bool.{ltb-false}
use Rattle.std.proofs.lemmas.Map.Steps.{list_any_congr}
use Rattle.std.proofs.lemmas.Option.{slice_get-get_or}
use Rattle.std.proofs.Math.ListN.{get_or-map}
use Rattle.std.proofs.lemmas.List.{length-map}
use Rattle.mesa_fold.specs.mesa_list.Bytes.{same_bytes}
use Rattle.mesa_columns.specs.declared.columns.KeyColumn.{KeyColumn}
use Rattle.mesa_columns.specs.declared.columns.ValueColumn.{ValueColumn}
use Rattle.mesa_columns.specs.declared.views.View.{View}
use Rattle.mesa_columns.specs.declared.views.ViewError.{ViewError}
use Rattle.mesa_columns.specs.declared.views.ViewError.TheVariants.{NoKey, NoValue}
use Rattle.mesa_columns.specs.Names.{has_name, repeated, repeated_after}
use Rattle.mesa_columns.specs.Columns.{Columns, chosen, key_names, place_of, places_in, value_names}
use Rattle.mesa_columns.specs.Schema.{is_schema}
use Rattle.mesa_schema.specs.Views.{choice_checked, view_columns}
use Rattle.mesa_schema.specs.Lineages.{is_view_of}
use Rattle.mesa_schema.proofs.Choices.{chosen-slot}
use Rattle.mesa_columns.proofs.Maps.{is_some_position}
use Rattle.mesa_schema.proofs.Passing.{passed_first, passed_if, passed_last, passed_unless}
use Rattle.mesa_columns.proofs.Places.{place_named}
use Rattle.mesa_columns.proofs.SchemaRules.{rules_left}

-- What a choice says.
pub record IsChoice (names asked : List (List ℕ)) : Type 0 where
  pub there : list_all (λ name. has_name name names) asked ≡ true
  pub some : (length asked == 0) ≡ false
  pub apart : repeated asked ≡ None

nothing : {A : Type 0} (o : Option A) → is_some o ≡ false → o ≡ None
nothing None e = refl
nothing (Some x) e = cc

pub choice : (names : List (List ℕ)) (none : ViewError) (asked : List (List ℕ)) → is_ok (choice_checked names none asked) ≡ true → IsChoice names asked
choice names none asked h =
    let first = passed_unless (list_all (λ name. has_name name names) asked) _ _ h in
    let second = passed_if (length asked == 0) none _ first.1 in
    record { there = first.0; some = second.0; apart = nothing (repeated asked) (passed_last (is_some (repeated asked)) _ second.1) }

-- both parts of a conjunction
both : (a b : Bool) → (a && b) ≡ true → (a ≡ true) × (b ≡ true)
both true b h = (refl, h)
both false b h = cc

-- a name that is there has a place
placed : (name : List ℕ) (names : List (List ℕ)) (o : Option ℕ) → place_of name names ≡ o → has_name name names ≡ true → (p : ℕ) × (place_of name names ≡ Some p)
placed name names (Some p) e h = (p, e)
placed name names None e h = let no : is_some (place_of name names) ≡ true = is_some_position (same_bytes name) names ∙ h in cc

-- the names of chosen columns, where there are columns
names_of : {C : Type 0} (f : C → List ℕ) (d : C) (columns : List C) (asked : List (List ℕ)) → list_all (λ name. has_name name (map f columns)) asked ≡ true
    → map f (chosen (places_in (map f columns) asked) columns) ≡ asked
names_of f d columns [] h = refl
names_of f d columns (name ∷ asked) h =
    let parts = both (has_name name (map f columns)) (list_all (λ n. has_name n (map f columns)) asked) h in
    let at = placed name (map f columns) (place_of name (map f columns)) refl parts.0 in
    let named = place_named name (map f columns) at.0 (f d) at.1 in
    let within : at.0 < length columns = omega (arith, length-map columns f, named.0) in
    ap (map f) (chosen-slot (map f columns) columns name asked at.0 (get_or columns at.0 d) at.1 (slice_get-get_or columns at.0 d within))
    ∙ ap (λ n. n ∷ map f (chosen (places_in (map f columns) asked) columns)) (sym (get_or-map f columns at.0 d) ∙ named.1)
    ∙ ap (λ ns. name ∷ ns) (names_of f d columns asked parts.1)

-- Chosen columns have the names that were asked for.
names_chosen : {C : Type 0} (f : C → List ℕ) (columns : List C) (asked : List (List ℕ)) → list_all (λ name. has_name name (map f columns)) asked ≡ true
    → map f (chosen (places_in (map f columns) asked) columns) ≡ asked
names_chosen f [] [] h = refl
names_chosen f [] (name ∷ asked) h = cc
names_chosen f (c ∷ columns) asked h = names_of f c (c ∷ columns) asked h

-- a choice that fell on the second
second_of : {A : Type 0} (t : Bool) (x : A) (o : Option A) → cond t (Some x) o ≡ None → (t ≡ false) × (o ≡ None)
second_of true x o h = cc
second_of false x o h = (refl, h)

-- both parts of a disjunction that doesn't hold
neither : (a b : Bool) → (a || b) ≡ false → (a ≡ false) × (b ≡ false)
neither true b h = cc
neither false b h = (refl, h)

-- what each has follows from what each had
each : {A : Type 0} (P Q : A → Type 0) (xs : List A) → ((x : A) → P x → Q x) → AllByRecursion P xs → AllByRecursion Q xs
each P Q [] f h = tt
each P Q (x ∷ xs) f h = (f x h.0, each P Q xs f h.1)

-- Names of which none is repeated differ from each other, and from those before.
apart_after : (seen names : List (List ℕ)) → repeated_after seen names ≡ None → IsDistinct same_bytes names × AllByRecursion (λ name. has_name name seen ≡ false) names
unfolding IsDistinct
apart_after seen [] h = (tt, tt)
apart_after seen (name ∷ names) h =
    let first = second_of (has_name name seen) name (repeated_after (name ∷ seen) names) h in
    let others = apart_after (name ∷ seen) names first.1 in (
      (each (λ other. has_name other (name ∷ seen) ≡ false) (λ other. same_bytes name other ≡ false) names (λ other e. nat_list_eq_equiv.symm name other ∙ (neither (same_bytes other name) (has_name other seen) e).0) others.1, others.0),
      (first.0, each (λ other. has_name other (name ∷ seen) ≡ false) (λ other. has_name other seen ≡ false) names (λ other e. (neither (same_bytes other name) (has_name other seen) e).1) others.1),
    )

-- a name among those that were asked for is among all
member_kept : (names asked : List (List ℕ)) → list_all (λ name. has_name name names) asked ≡ true → (q : List ℕ) → list_any (same_bytes q) asked ≡ true → list_any (same_bytes q) names ≡ true
member_kept names [] h q m = cc
member_kept names (a ∷ asked) h q m =
    let parts = both (has_name a names) (list_all (λ n. has_name n names) asked) h in
    elim (same_bytes q a) as (λ t. same_bytes q a ≡ t → (t || list_any (same_bytes q) asked) ≡ true → list_any (same_bytes q) names ≡ true) [
      | true ↦ λ e _. list_any_congr nat_list_eq_equiv q a names e ∙ parts.0
      | false ↦ λ _ rest. member_kept names asked parts.1 q rest
    ] refl m

-- A choice has no more names than there are.
few : (names asked : List (List ℕ)) → IsChoice names asked → length asked ≤ length names
few names asked h = length-le_from_is_member nat_list_eq_equiv asked names (apart_after [] asked h.apart).0 (λ q m. member_kept names asked h.there q m)

-- how many columns a schema has at most
pub few_columns : (s : Columns) → is_schema s ≡ true → (length s.keys ≤ 16) × (length s.values ≤ 16)
few_columns s h =
    let first = passed_if (length s.keys == 0) _ _ h in
    let second = passed_if (length s.values == 0) _ _ first.1 in
    let third = passed_if (nat_lt 16 (length s.keys) || nat_lt 16 (length s.values)) _ _ second.1 in
    let bounds = neither (nat_lt 16 (length s.keys)) (nat_lt 16 (length s.values)) third.0 in
    (ltb-false 16 (length s.keys) bounds.0, ltb-false 16 (length s.values) bounds.1)

-- chosen columns: some, not too many, and none twice
pub record IsSort (names : List (List ℕ)) (count : ℕ) : Type 0 where
  pub some : (count == 0) ≡ false
  pub few : count ≤ 16
  pub apart : repeated names ≡ None

pub sort_of : {C : Type 0} (f : C → List ℕ) (columns : List C) (asked : List (List ℕ)) → length columns ≤ 16 → IsChoice (map f columns) asked
    → IsSort (map f (chosen (places_in (map f columns) asked) columns)) (length (chosen (places_in (map f columns) asked) columns))
sort_of f columns asked l h =
    let same = names_chosen f columns asked h.there in
    let count : length (chosen (places_in (map f columns) asked) columns) ≡ length asked = sym (length-map (chosen (places_in (map f columns) asked) columns) f) ∙ ap length same in
    record {
      some = ap (λ n. n == 0) count ∙ h.some;
      few = omega (arith, few (map f columns) asked h, length-map columns f);
      apart = ap repeated same ∙ h.apart;
    }

-- A view's columns make a schema where its table's do.
pub view_is_schema : (s : Columns) (v : View) → is_schema s ≡ true → is_view_of s v ≡ true → is_schema (view_columns s v) ≡ true
view_is_schema s v sound h =
    let keys = passed_first (choice_checked (key_names s) NoKey v.keys) _ h in
    let values = passed_first (choice_checked (value_names s) NoValue v.values) _ keys.1 in
    let most = few_columns s sound in
    let a = sort_of (λ (c : KeyColumn). c.name) s.keys v.keys most.0 (choice (key_names s) NoKey v.keys keys.0) in
    let b = sort_of (λ (c : ValueColumn). c.name) s.values v.values most.1 (choice (value_names s) NoValue v.values values.0) in
    ap is_ok (rules_left (view_columns s v) None a.some b.some a.few b.few a.apart b.apart)

-- What each passes, the one at a place does.
passes_at : {A : Type 0} (p : A → Bool) (xs : List A) (i : ℕ) (x : A) → list_all p xs ≡ true → slice_get xs i ≡ Some x → p x ≡ true
passes_at p [] i x h e = cc
passes_at p (y ∷ ys) zero x h e = let same : y ≡ x = cc in ap p (sym same) ∙ (both (p y) (list_all p ys) h).0
passes_at p (y ∷ ys) (suc i) x h e = passes_at p ys i x (both (p y) (list_all p ys) h).1 e

-- The columns of a view, as code chooses them.
pub record Chooses (s : Columns) (v : View) (keys : List KeyColumn) (values : List ValueColumn) : Type 0 where
  pub keys_are : keys ≡ (view_columns s v).keys
  pub values_are : values ≡ (view_columns s v).values

pub chooses : (s : Columns) (v : View) (ks keys : List KeyColumn) (vs values : List ValueColumn) (key_words value_words : List (List ℕ))
    → ks ≡ s.keys → vs ≡ s.values → key_words ≡ v.keys → value_words ≡ v.values
    → keys ≡ chosen (places_in (map (λ (c : KeyColumn). c.name) ks) key_words) ks
    → values ≡ chosen (places_in (map (λ (c : ValueColumn). c.name) vs) value_words) vs
    → Chooses s v keys values
chooses s v ks keys vs values key_words value_words e f g h k w = record {
  keys_are = k ∙ ap (λ xs. chosen (places_in (map (λ (c : KeyColumn). c.name) xs) key_words) xs) e ∙ ap (λ ns. chosen (places_in (key_names s) ns) s.keys) g;
  values_are = w ∙ ap (λ xs. chosen (places_in (map (λ (c : ValueColumn). c.name) xs) value_words) xs) f ∙ ap (λ ns. chosen (places_in (value_names s) ns) s.values) h;
}

pub chooses_schema : (s : Columns) (v : View) (keys : List KeyColumn) (values : List ValueColumn) (views : List View) (i : ℕ) → Chooses s v keys values → is_schema s ≡ true → list_all (is_view_of s) views ≡ true → slice_get views i ≡ Some v
    → is_schema (record { keys = keys; values = values }) ≡ true
chooses_schema s v keys values views i c sound all at =
    ap (λ ks. is_schema (record { keys = ks; values = values })) c.keys_are ∙ ap (λ vs. is_schema (record { keys = (view_columns s v).keys; values = vs })) c.values_are
    ∙ view_is_schema s v sound (passes_at (is_view_of s) views i v all at)

pub chosen_view : (s : Columns) (v : View) (keys : List KeyColumn) (values : List ValueColumn) → Chooses s v keys values → record { keys = keys; values = values } ≡ view_columns s v
chosen_view s v keys values c = λ i. record { keys = c.keys_are i; values = c.values_are i }
