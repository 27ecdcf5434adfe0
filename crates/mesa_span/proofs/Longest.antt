-- The longest cumulative that ends at or before a version.
use Rattle.std.proofs.Common.{◌≡◌, ℕ, ◌+◌, ◌≤◌, List, [], ◌∷◌, Option, Some, None, sym, subst, arith, inl, inr}
use Rattle.std.specs.Prelude.{nat_le, max, fold, filter, Contains, All, IfSome}
use Rattle.std.specs.List.{reduce, AllByRecursion}
use Rattle.std.proofs.lemmas.Bool.Decides.{leb_tells}
use Rattle.std.proofs.lemmas.List.Elements.{All-from_recursion, recursion_from_All, All-contains_itself, All-filter}
use Rattle.mesa_span.specs.Ranges.{Rise}
use Rattle.mesa_span.specs.Plan.{longest}

-- a fact of both numbers is one of the greater
fact_of_max : (P : ℕ → Type 0) (a b : ℕ) → P a → P b → P (max a b)
fact_of_max P a b of_a of_b = elim (leb_tells a b) [ inl less ↦ subst P (omega arith) of_b | inr more ↦ subst P (omega arith) of_a ]

-- a fact of all numbers is one of the greatest
fact_of_greatest : (P : ℕ → Type 0) (a : ℕ) (xs : List ℕ) → P a → AllByRecursion P xs → P (fold max a xs)
fact_of_greatest P a [] of_a all = of_a
fact_of_greatest P a (x ∷ xs) of_a (first, rest) = fact_of_greatest P (max a x) xs (fact_of_max P a x of_a first) rest

greatest_from : (a : ℕ) (xs : List ℕ) → a ≤ fold max a xs
greatest_from a [] = omega arith
greatest_from a (x ∷ xs) = let more : max a x ≤ fold max (max a x) xs = greatest_from (max a x) xs in omega arith

greatest_bounds : (a : ℕ) (xs : List ℕ) → AllByRecursion (λ x. x ≤ fold max a xs) xs
greatest_bounds a [] = tt
greatest_bounds a (x ∷ xs) = let more : max a x ≤ fold max (max a x) xs = greatest_from (max a x) xs in (omega arith, greatest_bounds (max a x) xs)

-- what passes is at most the version
passing : (v : ℕ) (ends : List ℕ) → AllByRecursion (λ e. e ≤ v) (filter (λ e. nat_le e v) ends)
passing v [] = tt
passing v (end ∷ ends) = elim (leb_tells end v) [ inl less ↦ rw less.0 (less.1, passing v ends) | inr more ↦ rw more.0 (passing v ends) ]

-- a fact of all that pass is one of each that is at most the version
of_passing : (P : ℕ → Type 0) (v : ℕ) (ends : List ℕ) → AllByRecursion P (filter (λ e. nat_le e v) ends) → AllByRecursion (λ e. e ≤ v → P e) ends
of_passing P v [] all = tt
of_passing P v (end ∷ ends) all = elim (leb_tells end v) [ inl less ↦ let all' = rw less.0 at all in ((λ _. all'.0), of_passing P v ends all'.1) | inr more ↦ ((λ less. absurd (omega arith)), of_passing P v ends (rw more.0 at all)) ]

fact_of_reduced : (P : ℕ → Type 0) (xs : List ℕ) (greatest : ℕ) → reduce max xs ≡ Some greatest → AllByRecursion P xs → P greatest
fact_of_reduced P [] greatest reduced all = absurd cc
fact_of_reduced P (x ∷ xs) greatest reduced (first, rest) = let same : fold max x xs ≡ greatest = cc in subst P same (fact_of_greatest P x xs first rest)

reduced_bounds : (xs : List ℕ) (greatest : ℕ) → reduce max xs ≡ Some greatest → AllByRecursion (λ x. x ≤ greatest) xs
reduced_bounds [] greatest reduced = tt
reduced_bounds (x ∷ xs) greatest reduced = let same : fold max x xs ≡ greatest = cc in let P : ℕ → Type 0 = λ (g : ℕ). AllByRecursion (λ y. y ≤ g) (x ∷ xs) in subst P same (greatest_from x xs, greatest_bounds x xs)

none_reduced : (xs : List ℕ) → reduce max xs ≡ None → AllByRecursion (λ _. ⊥) xs
none_reduced [] reduced = tt
none_reduced (x ∷ xs) reduced = absurd cc

rise_above : (start from : ℕ) (ends : List ℕ) → start ≤ from → Rise from ends → AllByRecursion (λ end. start ≤ end) ends
rise_above start from [] below rise = tt
rise_above start from (end ∷ ends) below (first, rest) = (omega arith, rise_above start (end + 1) ends (omega arith) rest)

-- the longest cumulative that ends at or before a version is one, ends there, and is at least as long as each other that does
pub record IsLongest (start v : ℕ) (ends : List ℕ) (end : ℕ) : Type 0 where
  pub behind : start ≤ end
  pub within : end ≤ v
  pub there : Contains ends end
  pub greatest : All (λ other. other ≤ v → other ≤ end) ends

pub longest_is : (start v : ℕ) (ends : List ℕ) (end : ℕ) → Rise start ends → longest v ends ≡ Some end → IsLongest start v ends end
longest_is start v ends end rise found =
    let passes : List ℕ = filter (λ e. nat_le e v) ends in
    let above : AllByRecursion (λ e. start ≤ e) passes = recursion_from_All (λ e. start ≤ e) passes (All-filter (λ e. nat_le e v) (λ e. start ≤ e) ends (All-from_recursion (λ e. start ≤ e) ends (rise_above start start ends (omega arith) rise))) in
    let inside : AllByRecursion (Contains ends) passes = recursion_from_All (Contains ends) passes (All-filter (λ e. nat_le e v) (Contains ends) ends (All-contains_itself ends)) in
    record {
      behind = fact_of_reduced (λ e. start ≤ e) passes end found above;
      within = fact_of_reduced (λ e. e ≤ v) passes end found (passing v ends);
      there = fact_of_reduced (Contains ends) passes end found inside;
      greatest = All-from_recursion (λ other. other ≤ v → other ≤ end) ends (of_passing (λ other. other ≤ end) v ends (reduced_bounds passes end found));
    }

-- where there is none, each ends behind the version
pub longest_none : (v : ℕ) (ends : List ℕ) → longest v ends ≡ None → All (λ other. other ≤ v → ⊥) ends
longest_none v ends none = All-from_recursion (λ other. other ≤ v → ⊥) ends (of_passing (λ _. ⊥) v ends (none_reduced (filter (λ e. nat_le e v) ends) none))

pub longest_behind : (start v : ℕ) (ends : List ℕ) (found : Option ℕ) → Rise start ends → found ≡ longest v ends → IfSome found (λ end. (start ≤ end) × (end ≤ v))
longest_behind start v ends None rise found = tt
longest_behind start v ends (Some end) rise found = let is = longest_is start v ends end rise (sym found) in (is.behind, is.within)
