-- Marks of chosen columns.
use Rattle.std.proofs.Common.{◌≡◌, ℕ, zero, suc, ◌+◌, ◌-◌, ◌<◌, ◌≤◌, List, drop, replicate, [], ◌∷◌, length, map, get_or, set, Bool, true, false, refl, sym, ◌∙◌, ap, arith, inl, inr}
use Rattle.std.specs.Prelude.{◌||◌, ◌==◌, ◌&&◌, ◌≢◌, ◌⊎◌}
use Rattle.std.specs.List.{enumerate_from, list_all, range_with_len}
use Rattle.std.proofs.lemmas.Bool.{cases_eq, eq-eqb, eqb-true}
use Rattle.std.proofs.lemmas.List.{get_or-set_other, get_or-set_same}
use Rattle.std.proofs.Math.ListN.{drop_of_length-le}
use Rattle.mesa_model.specs.mesa_columns.Columns.{places_in}
use Rattle.mesa_model.specs.Orders.{has_place}

-- a place is marked, or among those that are left
abbrev pub Marks : List Bool → List ℕ → List ℕ → Type 0
Marks marks left all = (p : ℕ) → (get_or marks p false || has_place left p) ≡ has_place all p

or_true : (b : Bool) → (b || true) ≡ true
or_true true = refl
or_true false = refl

-- one place more is marked
pub mark_more : (marks : List Bool) (place : ℕ) (left all : List ℕ) → place < length marks → Marks marks (place ∷ left) all → Marks (set marks place true) left all
mark_more marks place left all l before = λ p. by p (cases_eq p place)
  where
    by : (p : ℕ) → (p ≡ place) ⊎ (p ≢ place) → (get_or (set marks place true) p false || has_place left p) ≡ has_place all p
    by p (inl same) =
        let here : get_or (set marks place true) p false ≡ true = ap (λ q. get_or (set marks place true) q false) same ∙ get_or-set_same marks place true false l in
        let own : (place == p) ≡ true = eq-eqb place p (sym same) in
        let was : (get_or marks p false || true) ≡ has_place all p = ap (λ b. get_or marks p false || (b || has_place left p)) (sym own) ∙ before p in
        ap (λ b. b || has_place left p) here ∙ sym (or_true (get_or marks p false)) ∙ was
    by p (inr other) =
        let there : get_or (set marks place true) p false ≡ get_or marks p false = get_or-set_other marks place p true false other in
        let not : (place == p) ≡ false = is_not (place == p) (λ t. other (sym (eqb-true place p t))) in
        ap (λ b. b || has_place left p) there ∙ ap (λ b. get_or marks p false || (b || has_place left p)) (sym not) ∙ before p
      where
        is_not : (b : Bool) → (b ≡ true → ⊥) → b ≡ false
        is_not true f = absurd (f refl)
        is_not false f = refl

-- in the beginning none is marked: the array is all `false`
pub none_yet : (n : ℕ) (all : List ℕ) → Marks (replicate n false) all all
none_yet n all = λ p. ap (λ b. b || has_place all p) (unmarked n p)
  where
    unmarked : (n p : ℕ) → get_or (replicate n false) p false ≡ false
    unmarked zero p = refl
    unmarked (suc n) zero = refl
    unmarked (suc n) (suc p) = unmarked n p

-- behind the last name none is left
pub all_left : (names asked : List (List ℕ)) (i : ℕ) → length asked ≤ i → places_in names (drop i asked) ≡ []
all_left names asked i l = ap (places_in names) (drop_of_length-le asked l)

or_false : (b : Bool) → (b || false) ≡ b
or_false true = refl
or_false false = refl

-- where none is left all are marked
pub marked_all : (marks : List Bool) (all : List ℕ) → Marks marks [] all → (p : ℕ) → get_or marks p false ≡ has_place all p
marked_all marks all before p = sym (or_false (get_or marks p false)) ∙ before p

-- ---- all of them

same_tests : (p q : ℕ → Bool) (xs : List ℕ) → ((x : ℕ) → p x ≡ q x) → list_all p xs ≡ list_all q xs
same_tests p q [] same = refl
same_tests p q (x ∷ xs) same = λ i. same x i && same_tests p q xs same i

-- the numbers below the length
numbers_below : {X : Type 0} (n : ℕ) (xs : List X) → map (λ (x : ℕ × X). x.0) (enumerate_from n xs) ≡ range_with_len n (length xs)
numbers_below n [] = refl
numbers_below n (x ∷ xs) = ap (λ l. n ∷ l) (numbers_below (n + 1) xs)

pub all_below : {X : Type 0} (marks : List Bool) (places : List ℕ) (xs : List X) → ((p : ℕ) → get_or marks p false ≡ has_place places p)
    → list_all (λ place. get_or marks place false) (range_with_len 0 (length xs)) ≡ list_all (has_place places) (map (λ (x : ℕ × X). x.0) (enumerate_from 0 xs))
all_below marks places xs same = ap (list_all (λ place. get_or marks place false)) (sym (numbers_below 0 xs)) ∙ same_tests (λ place. get_or marks place false) (has_place places) _ same

pub all_asked : (marks : List Bool) (places values : List ℕ) → ((p : ℕ) → get_or marks p false ≡ has_place places p) → list_all (λ place. get_or marks place false) values ≡ list_all (has_place places) values
all_asked marks places values same = same_tests (λ place. get_or marks place false) (has_place places) values same

-- one place more of all,
pub marks_next : (p : ℕ → Bool) (place count : ℕ) → place < count → list_all p (range_with_len place (count - place)) ≡ (p place && list_all p (range_with_len (place + 1) (count - (place + 1))))
marks_next p place count lt = let e : count - place ≡ suc (count - (place + 1)) = omega (arith, lt) in ap (λ n. list_all p (range_with_len place n)) e

-- and none behind the last
pub marks_end : (p : ℕ → Bool) (place count : ℕ) → count ≤ place → list_all p (range_with_len place (count - place)) ≡ true
marks_end p place count le = let e : count - place ≡ 0 = omega (arith, le) in ap (λ n. list_all p (range_with_len place n)) e
