-- Elements at chosen places.
use Rattle.std.proofs.Common.{◌≡◌, ℕ, zero, suc, ◌<◌, List, [], ◌∷◌, length, map, get_or, true, false, refl, sym, ◌∙◌, ap, arith, Option, Some, None, inl, inr}
use Rattle.std.specs.Prelude.{ℤ, pos, ◌⊎◌, nat_lt, option_map, slice_get}
use Rattle.std.specs.List.{cons_option}
use Rattle.std.proofs.lemmas.Bool.{ltb-true}
use Rattle.std.proofs.lemmas.Option.{slice_get-get_or, slice_get-map}
use Rattle.mesa_model.specs.mesa_columns.declared.columns.ValueColumn.{ValueColumn}
use Rattle.mesa_model.specs.mesa_columns.Columns.{chosen}
use Rattle.mesa_filter.proofs.PlacesAsked.{no_slot, slot_there}
use Rattle.mesa_filter.specs.Query.{are_places}
use Rattle.mesa_key.proofs.Columns.{both}

cons_map : {X Y : Type 0} (f : X → Y) (o : Option X) (xs : List X) → map f (cons_option o xs) ≡ cons_option (option_map f o) (map f xs)
cons_map f None xs = refl
cons_map f (Some x) xs = refl

-- elements may be chosen before they are mapped or after it
pub chosen-map : {X Y : Type 0} (f : X → Y) (places : List ℕ) (xs : List X) → map f (chosen places xs) ≡ chosen places (map f xs)
chosen-map f [] xs = refl
chosen-map f (p ∷ places) xs =
    let slot : option_map f (slice_get xs p) ≡ slice_get (map f xs) p = sym (slice_get-map f xs p) in
    cons_map f (slice_get xs p) (chosen places xs) ∙ (λ i. cons_option (slot i) (chosen-map f places xs i))

-- a place is one of both lists or of none
sides : {X Y : Type 0} (xs : List X) (ys : List Y) (p : ℕ) → length xs ≡ length ys
    → ((x : X) × (y : Y) × (slice_get xs p ≡ Some x) × (slice_get ys p ≡ Some y)) ⊎ ((slice_get xs p ≡ None) × (slice_get ys p ≡ None))
sides [] [] p e = inr (refl, refl)
sides [] (y ∷ ys) p e = absurd (omega arith)
sides (x ∷ xs) [] p e = absurd (omega arith)
sides (x ∷ xs) (y ∷ ys) zero e = inl (x, y, refl, refl)
sides (x ∷ xs) (y ∷ ys) (suc p) e = sides xs ys p (omega arith)

-- lists of one length give as many
pub length-chosen : {X Y : Type 0} (places : List ℕ) (xs : List X) (ys : List Y) → length xs ≡ length ys → length (chosen places xs) ≡ length (chosen places ys)
length-chosen [] xs ys e = refl
length-chosen (p ∷ places) xs ys e =
    let rest = length-chosen places xs ys e in
    elim (sides xs ys p e) [
      | inl some ↦ ap (λ o. length (cons_option o (chosen places xs))) some.2 ∙ ap suc rest ∙ sym (ap (λ o. length (cons_option o (chosen places ys))) some.3)
      | inr none ↦ ap (λ o. length (cons_option o (chosen places xs))) none.0 ∙ rest ∙ sym (ap (λ o. length (cons_option o (chosen places ys))) none.1)
    ]

-- where a chosen element comes from, in each list of one length
pub record From {Y : Type 0} (values : List ℕ) (ys : List Y) (c : ℕ) (y : Y) : Type 0 where
  pub place : ℕ
  pub there : slice_get ys place ≡ Some y
  pub same : (zs : List ℤ) → length zs ≡ length ys → get_or (chosen values zs) c (pos 0) ≡ get_or zs place (pos 0)

pub picked : {Y : Type 0} (values : List ℕ) (ys : List Y) (c : ℕ) (y : Y) → are_places ys values ≡ true → slice_get (chosen values ys) c ≡ Some y → From values ys c y
picked [] ys c y h e = cc
picked (p ∷ values) ys zero y h e =
    let l : p < length ys = ltb-true p (length ys) (both (nat_lt p (length ys)) (are_places ys values) h).0 in
    let here : slice_get ys p ≡ Some (get_or ys p y) = slice_get-get_or ys p y l in
    record {
      place = p;
      there = here ∙ sym (ap (λ o. slice_get (cons_option o (chosen values ys)) zero) here) ∙ e;
      same = λ zs f. ap (λ o. get_or (cons_option o (chosen values zs)) zero (pos 0)) (slice_get-get_or zs p (pos 0) (omega arith));
    }
picked (p ∷ values) ys (suc c) y h e =
    let parts = both (nat_lt p (length ys)) (are_places ys values) h in
    let l : p < length ys = ltb-true p (length ys) parts.0 in
    let from = picked values ys c y parts.1 (sym (ap (λ o. slice_get (cons_option o (chosen values ys)) (suc c)) (slice_get-get_or ys p y l)) ∙ e) in
    record {
      place = from.place;
      there = from.there;
      same = λ zs f. ap (λ o. get_or (cons_option o (chosen values zs)) (suc c) (pos 0)) (slice_get-get_or zs p (pos 0) (omega arith)) ∙ from.same zs f;
    }

-- the aggregation at a place, where there is a column,
pub agg_there : (columns found : List ValueColumn) (place : ℕ) (column : ValueColumn) → found ≡ columns → true ≡ nat_lt place (length found) → column ≡ get_or found place column
    → slice_get (map (λ (c : ValueColumn). c.agg) columns) place ≡ Some column.agg
agg_there columns found place column same l e =
    slice_get-map (λ (c : ValueColumn). c.agg) columns place ∙ ap (λ cs. option_map (λ (c : ValueColumn). c.agg) (slice_get cs place)) (sym same) ∙ ap (option_map (λ (c : ValueColumn). c.agg)) (slot_there found place column l e)

-- and where there is none
pub agg_nowhere : (columns found : List ValueColumn) (place : ℕ) → found ≡ columns → false ≡ nat_lt place (length found) → slice_get (map (λ (c : ValueColumn). c.agg) columns) place ≡ None
agg_nowhere columns found place same l =
    slice_get-map (λ (c : ValueColumn). c.agg) columns place ∙ ap (λ cs. option_map (λ (c : ValueColumn). c.agg) (slice_get cs place)) (sym same) ∙ ap (option_map (λ (c : ValueColumn). c.agg)) (no_slot found place l)
