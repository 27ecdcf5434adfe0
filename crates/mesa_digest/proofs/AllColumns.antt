-- What is chosen by all names is all there is, in another order.
use Rattle.std.proofs.Common.{◌≡◌, ℕ, zero, suc, ◌+◌, ◌<◌, List, [], ◌∷◌, ◌++◌, map, length, get_or, Bool, true, false, refl, sym, ◌∙◌, ap, subst, arith, Option, None, Some}
use Rattle.std.specs.Prelude.{◌||◌, ◌==◌, nat_lt, is_some}
use Rattle.std.specs.Cmp.Lexicographic.{same_text}
use Rattle.std.specs.List.{cons_option, list_all, list_any}
use Rattle.std.specs.List.Sorted.{IsPermutation}
use Rattle.std.proofs.lemmas.Bool.{and_parts, eq-eqb, ltb-false, ltb-true}
use Rattle.std.proofs.lemmas.Cmp.{nat_list_eq_equiv}
use Rattle.std.proofs.lemmas.List.{get_or-map, get_or_default, length-map, same_lists}
use Rattle.std.proofs.lemmas.List.Sorted.{IsPermutation-cons, IsPermutation-map, IsPermutation-middle, IsPermutation-refl, IsPermutation-trans}
use Rattle.std.proofs.lemmas.Option.{slice_get-get_or}
use Rattle.mesa_schema.specs.mesa_list.Bytes.{same_bytes}
use Rattle.mesa_columns.specs.Columns.{chosen, place_of, places_in}
use Rattle.mesa_columns.specs.Names.{has_name}
use Rattle.mesa_schema.proofs.Apart.{Apart}
use Rattle.mesa_schema.proofs.Choices.{chosen-slot}
use Rattle.mesa_columns.proofs.Maps.{is_some_position}
use Rattle.mesa_columns.proofs.Places.{place_named}
use Rattle.mesa_digest.proofs.Placing.{either, names_differ}

-- ---- names of which none is another

abbrev AreApart : List (List ℕ) → Type 0
AreApart [] = Unit {0}
AreApart (x ∷ xs) = (has_name x xs ≡ false) × AreApart xs

same_is : (x y : List ℕ) → same_bytes x y ≡ true → x ≡ y
same_is x y e = same_text x y (sym e)

unseen : (x : List ℕ) (seen xs : List (List ℕ)) → has_name x seen ≡ true → Apart seen xs → has_name x xs ≡ false
unseen x seen [] h apart = refl
unseen x seen (y ∷ ys) h apart =
    elim (same_bytes x y) as (λ t. same_bytes x y ≡ t → (t || has_name x ys) ≡ false) [
      | true ↦ λ e. let there : has_name y seen ≡ true = ap (λ q. has_name q seen) (sym (same_is x y e)) ∙ h in cc (there, apart.0)
      | false ↦ λ e. unseen x (y ∷ seen) ys (either (same_bytes x y) (has_name x seen) h) apart.1
    ] refl

pub plainly : (seen xs : List (List ℕ)) → Apart seen xs → AreApart xs
plainly seen [] apart = tt
plainly seen (x ∷ xs) apart = (unseen x (x ∷ seen) xs (ap (λ t. t || has_name x seen) (nat_list_eq_equiv.refl x)) apart.1, plainly (x ∷ seen) xs apart.1)

or_swap : (a b c : Bool) → (a || (b || c)) ≡ (b || (a || c))
or_swap true true c = refl
or_swap true false c = refl
or_swap false b c = refl

neither : (a b : Bool) → (a || b) ≡ false → (a ≡ false) × (b ≡ false)
neither true b e = cc
neither false b e = (refl, e)

none_of : (a b : Bool) → a ≡ false → b ≡ false → (a || b) ≡ false
none_of a b e f = ap (λ t. t || b) e ∙ f

-- a name more in the middle
has_middle : (x n : List ℕ) (front back : List (List ℕ)) → has_name x (front ++ n ∷ back) ≡ (same_bytes x n || has_name x (front ++ back))
has_middle x n [] back = refl
has_middle x n (y ∷ front) back = ap (λ t. same_bytes x y || t) (has_middle x n front back) ∙ or_swap (same_bytes x y) (same_bytes x n) (has_name x (front ++ back))

record IsWithout (n : List ℕ) (names : List (List ℕ)) : Type 0 where
  apart : AreApart names
  none : has_name n names ≡ false

without_middle : (n : List ℕ) (front back : List (List ℕ)) → AreApart (front ++ n ∷ back) → IsWithout n (front ++ back)
without_middle n [] back apart = record { apart = apart.1; none = apart.0 }
without_middle n (x ∷ front) back apart =
    let parts = neither (same_bytes x n) (has_name x (front ++ back)) (sym (has_middle x n front back) ∙ apart.0) in
    let rest = without_middle n front back apart.1 in
    record { apart = (parts.1, rest.apart); none = none_of (same_bytes n x) (has_name n (front ++ back)) (nat_list_eq_equiv.symm n x ∙ parts.0) rest.none }

-- a list of names, parted at one of them
record IsParted (n : List ℕ) (names : List (List ℕ)) : Type 0 where
  front : List (List ℕ)
  back : List (List ℕ)
  is : names ≡ front ++ n ∷ back

parted : (n : List ℕ) (names : List (List ℕ)) → has_name n names ≡ true → IsParted n names
parted n [] h = cc
parted n (x ∷ names) h =
    elim (same_bytes n x) as (λ t. same_bytes n x ≡ t → (t || has_name n names) ≡ true → IsParted n (x ∷ names)) [
      | true ↦ λ e _. record { front = []; back = names; is = ap (λ y. y ∷ names) (sym (same_is n x e)) }
      | false ↦ λ _ more. let rest = parted n names more in record { front = x ∷ rest.front; back = rest.back; is = ap (λ ys. x ∷ ys) rest.is }
    ] refl h

abbrev AreAmong : List (List ℕ) → List (List ℕ) → Type 0
AreAmong xs ys = (x : List ℕ) → has_name x xs ≡ true → has_name x ys ≡ true

other_of : (a b : Bool) → (a || b) ≡ true → a ≡ false → b ≡ true
other_of true b h e = cc
other_of false b h e = h

-- lists of names that are among each other, each without repeats, are the same but for their order
reordered : (asked names : List (List ℕ)) → AreApart asked → AreApart names → AreAmong asked names → AreAmong names asked → IsPermutation asked names
reordered [] [] a b sub sup = IsPermutation-refl []
reordered (x ∷ asked) [] a b sub sup = let there : has_name x [] ≡ true = sub x (ap (λ t. t || has_name x asked) (nat_list_eq_equiv.refl x)) in cc there
reordered asked (n ∷ names) a b sub sup =
    let at : IsParted n asked = parted n asked (sup n (ap (λ t. t || has_name n names) (nat_list_eq_equiv.refl n))) in
    let rest : IsWithout n (at.front ++ at.back) = without_middle n at.front at.back (subst AreApart at.is a) in
    let had : (x : List ℕ) → has_name x asked ≡ (same_bytes x n || has_name x (at.front ++ at.back)) = λ x. ap (has_name x) at.is ∙ has_middle x n at.front at.back in
    let fewer : AreAmong (at.front ++ at.back) names = λ x h.
    elim (same_bytes x n) as (λ t. same_bytes x n ≡ t → has_name x names ≡ true) [
      | true ↦ λ e. let here : has_name n (at.front ++ at.back) ≡ true = ap (λ q. has_name q (at.front ++ at.back)) (sym (same_is x n e)) ∙ h in cc (here, rest.none)
      | false ↦ λ e. other_of (same_bytes x n) (has_name x names) (sub x (had x ∙ either (same_bytes x n) (has_name x (at.front ++ at.back)) h)) e
    ] refl in
    let more : AreAmong names (at.front ++ at.back) = λ x h.
    elim (same_bytes x n) as (λ t. same_bytes x n ≡ t → has_name x (at.front ++ at.back) ≡ true) [
      | true ↦ λ e. let here : has_name n names ≡ true = ap (λ q. has_name q names) (sym (same_is x n e)) ∙ h in cc (here, b.0)
      | false ↦ λ e. other_of (same_bytes x n) (has_name x (at.front ++ at.back)) (sym (had x) ∙ sup x (either (same_bytes x n) (has_name x names) h)) e
    ] refl in
    IsPermutation-trans asked (n ∷ (at.front ++ at.back)) (n ∷ names)
    (subst (λ xs. IsPermutation xs (n ∷ (at.front ++ at.back))) (sym at.is) (IsPermutation-middle at.front n at.back))
    (IsPermutation-cons n (at.front ++ at.back) names (reordered (at.front ++ at.back) names rest.apart b.1 fewer more))

-- what each is, one is
pub all_among : (asked names : List (List ℕ)) → list_all (λ name. has_name name names) asked ≡ true → AreAmong asked names
all_among [] names h x there = cc there
all_among (a ∷ asked) names h x there =
    let parts = and_parts (has_name a names) (list_all (λ name. has_name name names) asked) h in
    elim (same_bytes x a) as (λ t. same_bytes x a ≡ t → (t || has_name x asked) ≡ true → has_name x names ≡ true) [
      | true ↦ λ e _. ap (λ q. has_name q names) (same_is x a e) ∙ parts.0
      | false ↦ λ _ more. all_among asked names parts.1 x more
    ] refl there

-- ---- what stands at the places of names

placed : (name : List ℕ) (names : List (List ℕ)) (o : Option ℕ) → place_of name names ≡ o → has_name name names ≡ true → (p : ℕ) × (place_of name names ≡ Some p)
placed name names (Some p) e h = (p, e)
placed name names None e h = let none : is_some (place_of name names) ≡ true = is_some_position (same_bytes name) names ∙ h in cc (none, ap is_some e)

pub has_at : (names : List (List ℕ)) (i : ℕ) → i < length names → has_name (get_or names i []) names ≡ true
has_at [] i l = absurd (omega arith)
has_at (n ∷ names) zero l = ap (λ t. t || has_name n names) (nat_list_eq_equiv.refl n)
has_at (n ∷ names) (suc i) l = either (same_bytes (get_or names i []) n) (has_name (get_or names i []) names) (has_at names i (omega (arith, l)))

one_place : (names : List (List ℕ)) (i j : ℕ) → Apart [] names → i < length names → j < length names → get_or names i [] ≡ get_or names j [] → i ≡ j
one_place names i j apart l m e =
    elim (nat_lt i j) as (λ t. nat_lt i j ≡ t → i ≡ j) [
      | true ↦ λ less. absurd (names_differ [] names i j apart (ltb-true i j less) m e)
      | false ↦ λ over. elim (nat_lt j i) as (λ t. nat_lt j i ≡ t → i ≡ j) [
        | true ↦ λ less. absurd (names_differ [] names j i apart (ltb-true j i less) l (sym e))
        | false ↦ λ under. omega (arith, ltb-false i j over, ltb-false j i under)
      ] refl
    ] refl

-- a name's place is where it stands
place_itself : (names : List (List ℕ)) (i : ℕ) → Apart [] names → i < length names → place_of (get_or names i []) names ≡ Some i
place_itself names i apart l =
    let name : List ℕ = get_or names i [] in
    let at = placed name names (place_of name names) refl (has_at names i l) in
    let there = place_named name names at.0 [] at.1 in
    at.1 ∙ ap Some (one_place names at.0 i apart there.0 l there.1)

-- among the places of names is each at which one of them stands
pub any_place : (names asked : List (List ℕ)) (i : ℕ) → Apart [] names → i < length names → has_name (get_or names i []) asked ≡ true → list_any (λ c. c == i) (places_in names asked) ≡ true
any_place names [] i apart l h = cc h
any_place names (a ∷ asked) i apart l h =
    let name : List ℕ = get_or names i [] in
    elim (same_bytes name a) as (λ t. same_bytes name a ≡ t → (t || has_name name asked) ≡ true → list_any (λ c. c == i) (places_in names (a ∷ asked)) ≡ true) [
      | true ↦ λ e _.
          let here : place_of a names ≡ Some i = ap (λ q. place_of q names) (sym (same_is name a e)) ∙ place_itself names i apart l in
          ap (λ o. list_any (λ c. c == i) (cons_option o (places_in names asked))) here ∙ itself i (list_any (λ c. c == i) (places_in names asked))
      | false ↦ λ _ more. behind (place_of a names) (places_in names asked) (any_place names asked i apart l more)
    ] refl h where
      itself : (n : ℕ) (b : Bool) → ((n == n) || b) ≡ true
      itself n b = ap (λ t. t || b) (eq-eqb n n refl)

      behind : (o : Option ℕ) (places : List ℕ) → list_any (λ c. c == i) places ≡ true → list_any (λ c. c == i) (cons_option o places) ≡ true
      behind None places more = more
      behind (Some q) places more = either (q == i) (list_any (λ c. c == i) places) more

module _ {X : Type 0} (d : X) (names : List (List ℕ)) (xs : List X) (apart : Apart [] names) (same : length xs ≡ length names) where
  at_place : Option ℕ → X
  at_place None = d
  at_place (Some p) = get_or xs p d

  pick : List ℕ → X
  pick name = at_place (place_of name names)

  chosen_picked : (asked : List (List ℕ)) → list_all (λ name. has_name name names) asked ≡ true → chosen (places_in names asked) xs ≡ map pick asked
  unfolding pick at_place
  chosen_picked [] h = refl
  chosen_picked (a ∷ asked) h =
      let parts = and_parts (has_name a names) (list_all (λ name. has_name name names) asked) h in
      let at = placed a names (place_of a names) refl parts.0 in
      let there = place_named a names at.0 [] at.1 in
      chosen-slot names xs a asked at.0 (get_or xs at.0 d) at.1 (slice_get-get_or xs at.0 d (omega (arith, same, there.0)))
      ∙ (λ i. at_place (sym at.1 i) ∷ chosen_picked asked parts.1 i)

  picked_all : map pick names ≡ xs
  unfolding pick at_place
  picked_all = same_lists (map pick names) xs (length-map names pick ∙ sym same) (λ k e l.
      let within : k < length names = omega (arith, l, length-map names pick) in
      get_or-map pick names k [] e within ∙ ap at_place (place_itself names k apart within) ∙ get_or_default xs k d e (omega (arith, within, same)))

  -- What stands at the places of all names, in an order of their own, is all in another order.
  pub chosen_all : (asked : List (List ℕ)) → Apart [] asked → list_all (λ name. has_name name names) asked ≡ true → list_all (λ name. has_name name asked) names ≡ true → IsPermutation (chosen (places_in names asked) xs) xs
  chosen_all asked distinct sub sup =
      subst (λ ys. IsPermutation ys xs) (sym (chosen_picked asked sub))
      (subst (λ ys. IsPermutation (map pick asked) ys) picked_all
      (IsPermutation-map pick asked names (reordered asked names (plainly [] asked distinct) (plainly [] names apart) (all_among asked names sub) (all_among names asked sup))))
