-- The leading columns that have a term with `=`, one after another.
use Rattle.std.proofs.Common.{◌≡◌, ℕ, zero, suc, ◌+◌, ◌<◌, ◌≤◌, List, [], ◌∷◌, length, drop, map, get_or, Bool, true, false, cond, refl, sym, ◌∙◌, ap, add-one, drop-cons, arith, Option, Some, None}
use Rattle.std.specs.List.{cons_option, enumerate_from, prefix_len}
use Rattle.std.proofs.lemmas.List.{length-take-le}
use Rattle.std.proofs.Math.ListN.{drop_of_length-le}
use Rattle.mesa_model.specs.mesa_columns.Columns.{place_of, places_in}
use Rattle.mesa_filter.specs.declared.terms.Term.{Term}
use Rattle.mesa_filter.specs.Asked.{places_below}
use Rattle.mesa_model.specs.Orders.{has_equal, leading}

prefix_short : {X : Type 0} (p : X → Bool) (xs : List X) → prefix_len p xs ≤ length xs
prefix_short p [] = omega arith
prefix_short p (x ∷ xs) = elim (p x) as (λ b. cond b (1 + prefix_len p xs) 0 ≤ length (x ∷ xs)) [
  | true ↦ let rest = prefix_short p xs in omega (arith, rest)
  | false ↦ omega arith
]

leading_is : (terms : List Term) (places : List ℕ) → leading terms places ≡ prefix_len (has_equal terms) places
leading_is terms places = length-take-le (prefix_len (has_equal terms) places) places (prefix_short (has_equal terms) places)

-- one column more leads where it has such a term
pub leading_cons : (terms : List Term) (place : ℕ) (places : List ℕ) → leading terms (place ∷ places) ≡ cond (has_equal terms place) (1 + leading terms places) 0
leading_cons terms place places = leading_is terms (place ∷ places) ∙ ap (λ n. cond (has_equal terms place) (1 + n) 0) (sym (leading_is terms places))

-- ---- a table's own columns

-- the places from one on
abbrev pub places_from : {X : Type 0} → ℕ → List X → List ℕ
places_from i xs = map (λ p. p.0) (enumerate_from i (drop i xs))

next_place : {X : Type 0} (n : ℕ) (xs : List X) (i : ℕ) → i < length xs → map (λ p. p.0) (enumerate_from n (drop i xs)) ≡ n ∷ map (λ p. p.0) (enumerate_from (n + 1) (drop (i + 1) xs))
next_place n [] i l = absurd (omega (arith, l))
next_place n (x ∷ xs) zero l = refl
next_place n (x ∷ xs) (suc i) l = next_place n xs i (omega (arith, l)) ∙ ap (λ k. n ∷ map (λ p. p.0) (enumerate_from (n + 1) (drop k (x ∷ xs)))) (let later : suc (i + 1) ≡ suc i + 1 = omega arith in later)

pub own_first : {X : Type 0} (terms : List Term) (xs : List X) → 0 + leading terms (places_from 0 xs) ≡ leading terms (places_below xs)
own_first terms xs = more (leading terms (places_below xs))
  where
    more : (n : ℕ) → 0 + n ≡ n
    more n = omega arith

pub own_leads : {X : Type 0} (terms : List Term) (xs : List X) (i all : ℕ) → i < length xs → has_equal terms i ≡ true → i + leading terms (places_from i xs) ≡ all → i + 1 + leading terms (places_from (i + 1) xs) ≡ all
own_leads terms xs i all l e before =
    let step : leading terms (places_from i xs) ≡ 1 + leading terms (places_from (i + 1) xs) = ap (leading terms) (next_place i xs i l) ∙ leading_cons terms i (places_from (i + 1) xs) ∙ ap (λ b. cond b (1 + leading terms (places_from (i + 1) xs)) 0) e in
    omega (arith, step, before)

pub own_ends : {X : Type 0} (terms : List Term) (xs : List X) (i all : ℕ) → i < length xs → has_equal terms i ≡ false → i + leading terms (places_from i xs) ≡ all → i ≡ all
own_ends terms xs i all l e before =
    let step : leading terms (places_from i xs) ≡ 0 = ap (leading terms) (next_place i xs i l) ∙ leading_cons terms i (places_from (i + 1) xs) ∙ ap (λ b. cond b (1 + leading terms (places_from (i + 1) xs)) 0) e in
    omega (arith, step, before)

pub own_all : {X : Type 0} (terms : List Term) (xs : List X) (i all : ℕ) → i ≡ length xs → i + leading terms (places_from i xs) ≡ all → length xs ≡ all
own_all terms xs i all l before =
    let none : leading terms (places_from i xs) ≡ 0 = ap (λ ys. leading terms (map (λ p. p.0) (enumerate_from i ys))) (drop_of_length-le xs (omega (arith, l))) in
    omega (arith, none, before, l)

-- ---- the chosen columns

-- the places of the names from one on
pub names_next : (names asked : List (List ℕ)) (i : ℕ) (name : List ℕ) (o : Option ℕ) → i < length asked → name ≡ get_or asked i name → place_of name names ≡ o → places_in names (drop i asked) ≡ cons_option o (places_in names (drop (i + 1) asked))
names_next names asked i name o l is e =
    ap (places_in names) (drop-cons asked i name l ∙ (λ j. sym is j ∷ drop (sym (add-one i) j) asked)) ∙ ap (λ x. cons_option x (places_in names (drop (i + 1) asked))) e

pub chosen_leads : (terms : List Term) (names asked : List (List ℕ)) (i : ℕ) (name : List ℕ) (place count all : ℕ) → i < length asked → name ≡ get_or asked i name → place_of name names ≡ Some place → has_equal terms place ≡ true
    → count + leading terms (places_in names (drop i asked)) ≡ all → count + 1 + leading terms (places_in names (drop (i + 1) asked)) ≡ all
chosen_leads terms names asked i name place count all l is p e before =
    let rest : List ℕ = places_in names (drop (i + 1) asked) in
    let step : leading terms (places_in names (drop i asked)) ≡ 1 + leading terms rest = ap (leading terms) (names_next names asked i name (Some place) l is p) ∙ leading_cons terms place rest ∙ ap (λ b. cond b (1 + leading terms rest) 0) e in
    omega (arith, step, before)

pub chosen_ends : (terms : List Term) (names asked : List (List ℕ)) (i : ℕ) (name : List ℕ) (place count all : ℕ) → i < length asked → name ≡ get_or asked i name → place_of name names ≡ Some place → has_equal terms place ≡ false
    → count + leading terms (places_in names (drop i asked)) ≡ all → count ≡ all
chosen_ends terms names asked i name place count all l is p e before =
    let rest : List ℕ = places_in names (drop (i + 1) asked) in
    let step : leading terms (places_in names (drop i asked)) ≡ 0 = ap (leading terms) (names_next names asked i name (Some place) l is p) ∙ leading_cons terms place rest ∙ ap (λ b. cond b (1 + leading terms rest) 0) e in
    omega (arith, step, before)

pub chosen_past : (terms : List Term) (names asked : List (List ℕ)) (i : ℕ) (name : List ℕ) (count all : ℕ) → i < length asked → name ≡ get_or asked i name → place_of name names ≡ None
    → count + leading terms (places_in names (drop i asked)) ≡ all → count + leading terms (places_in names (drop (i + 1) asked)) ≡ all
chosen_past terms names asked i name count all l is p before = ap (λ places. count + leading terms places) (sym (names_next names asked i name None l is p)) ∙ before

pub chosen_all : (terms : List Term) (names asked : List (List ℕ)) (i count all : ℕ) → length asked ≤ i → count + leading terms (places_in names (drop i asked)) ≡ all → count ≡ all
chosen_all terms names asked i count all l before =
    let none : leading terms (places_in names (drop i asked)) ≡ 0 = ap (λ ws. leading terms (places_in names ws)) (drop_of_length-le asked l) in
    omega (arith, none, before)
