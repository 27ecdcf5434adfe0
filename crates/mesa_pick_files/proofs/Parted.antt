-- A list that is cut where a test parts it.
use Rattle.std.proofs.Common.{◌≡◌, ℕ, zero, suc, ◌+◌, ◌≤◌, ◌<◌, List, [], ◌∷◌, length, take, drop, refl, ap, ◌∙◌, sym, arith, Bool, true, false, cond, get_or}
use Rattle.std.specs.Prelude.{filter, nat_le}
use Rattle.std.specs.List.{AllWithin}
use Rattle.std.specs.List.Sorted.{IsNonDecreasingBy, IsPartitionPoint}
use Rattle.std.proofs.lemmas.Bool.Decides.{nat_tests}
use Rattle.mesa_catalog_table.specs.declared.table.Loaded.{Loaded}
use Rattle.mesa_catalog_table.specs.Meaning.{AreLoaded}
use Rattle.mesa_pick_files.specs.Lent.{loaded_from}

-- ---- what passes and what fails

none_pass : {X : Type 0} (p : X → Bool) (xs : List X) → AllWithin (λ y. p y ≡ false) xs 0 (length xs) → filter p xs ≡ []
none_pass p [] all = refl
none_pass p (x ∷ xs) all =
    let here : p x ≡ false = all 0 x (omega arith) (omega arith) in
    ap (λ b. cond b (x ∷ filter p xs) (filter p xs)) here ∙ none_pass p xs (λ k d low high. all (suc k) d (omega arith) (omega arith))

all_pass : {X : Type 0} (p : X → Bool) (xs : List X) → AllWithin (λ y. p y ≡ true) xs 0 (length xs) → filter p xs ≡ xs
all_pass p [] all = refl
all_pass p (x ∷ xs) all =
    let here : p x ≡ true = all 0 x (omega arith) (omega arith) in
    ap (λ b. cond b (x ∷ filter p xs) (filter p xs)) here ∙ ap (λ ys. x ∷ ys) (all_pass p xs (λ k d low high. all (suc k) d (omega arith) (omega arith)))

-- the first elements are those that pass
pub front_passes : {X : Type 0} (p : X → Bool) (xs : List X) (i : ℕ) → i ≤ length xs → IsPartitionPoint (λ y. p y ≡ true) (λ y. p y ≡ false) xs i → take i xs ≡ filter p xs
front_passes p [] zero h point = refl
front_passes p [] (suc i) h point = refl
front_passes p (x ∷ xs) zero h point = sym (none_pass p (x ∷ xs) point.1)
front_passes p (x ∷ xs) (suc i) h point =
    let here : p x ≡ true = point.0 0 x (omega arith) (omega arith) in
    let rest = front_passes p xs i (omega arith) ((λ k d low high. point.0 (suc k) d (omega arith) (omega arith)), (λ k d low high. point.1 (suc k) d (omega arith) (omega arith))) in
    ap (λ ys. x ∷ ys) rest ∙ sym (ap (λ b. cond b (x ∷ filter p xs) (filter p xs)) here)

-- the others are those that fail, as another test tells
pub rest_fails : {X : Type 0} (p q : X → Bool) → ((x : X) → p x ≡ true → q x ≡ false) → ((x : X) → p x ≡ false → q x ≡ true)
    → (xs : List X) (i : ℕ) → i ≤ length xs → IsPartitionPoint (λ y. p y ≡ true) (λ y. p y ≡ false) xs i → drop i xs ≡ filter q xs
rest_fails p q fails passes [] zero h point = refl
rest_fails p q fails passes [] (suc i) h point = refl
rest_fails p q fails passes (x ∷ xs) zero h point = sym (all_pass q (x ∷ xs) (λ k d low high. passes _ (point.1 k d low high)))
rest_fails p q fails passes (x ∷ xs) (suc i) h point =
    let here : p x ≡ true = point.0 0 x (omega arith) (omega arith) in
    let rest = rest_fails p q fails passes xs i (omega arith) ((λ k d low high. point.0 (suc k) d (omega arith) (omega arith)), (λ k d low high. point.1 (suc k) d (omega arith) (omega arith))) in
    rest ∙ sym (ap (λ b. cond b (x ∷ filter q xs) (filter q xs)) (fails x here))

-- ---- what was loaded

abbrev pub version_of : Loaded → ℕ
version_of l = l.version

least_version : (start next : ℕ) (loaded : List Loaded) → AreLoaded start next loaded → (j : ℕ) (d : Loaded) → j < length loaded → start ≤ version_of (get_or loaded j d)
least_version start next [] are j d h = absurd (omega arith)
least_version start next (l ∷ loaded) are zero d h = are.0
least_version start next (l ∷ loaded) are (suc j) d h =
    let first : start ≤ l.version = are.0 in
    let later = least_version (l.version + 1) next loaded are.2 j d (omega arith) in
    omega arith

pub versions_rise : (start next : ℕ) (loaded : List Loaded) → AreLoaded start next loaded → IsNonDecreasingBy version_of loaded
versions_rise start next [] are i j d le h = absurd (omega arith)
versions_rise start next (l ∷ loaded) are zero zero d le h = omega arith
versions_rise start next (l ∷ loaded) are zero (suc j) d le h =
    let later = least_version (l.version + 1) next loaded are.2 j d (omega arith) in
    omega arith
versions_rise start next (l ∷ loaded) are (suc i) zero d le h = absurd (omega arith)
versions_rise start next (l ∷ loaded) are (suc i) (suc j) d le h = versions_rise (l.version + 1) next loaded are.2 i j d (omega arith) (omega arith)

lower : (low start next : ℕ) (loaded : List Loaded) → low ≤ start → AreLoaded start next loaded → AreLoaded low next loaded
lower low start next [] h are = tt
lower low start next (l ∷ loaded) h are = let first : start ≤ l.version = are.0 in (omega arith, are.1, are.2)

-- what was loaded from a version on is loaded
pub loaded_on : (from start next : ℕ) (loaded : List Loaded) → AreLoaded start next loaded → AreLoaded start next (loaded_from from loaded)
loaded_on from start next [] are = tt
loaded_on from start next (l ∷ loaded) are =
    let first : start ≤ l.version = are.0 in
    let rest = loaded_on from (l.version + 1) next loaded are.2 in
    elim (nat_le from l.version) as (λ b. AreLoaded start next (cond b (l ∷ loaded_from from loaded) (loaded_from from loaded))) [
      | true ↦ (are.0, are.1, rest)
      | false ↦ lower start (l.version + 1) next (loaded_from from loaded) (omega arith) rest
    ]

-- all that was loaded from the start on
pub all_from : (from start next : ℕ) (loaded : List Loaded) → from ≤ start → AreLoaded start next loaded → loaded_from from loaded ≡ loaded
all_from from start next [] h are = refl
all_from from start next (l ∷ loaded) h are =
    let first : start ≤ l.version = are.0 in
    let late : nat_le from l.version ≡ true = grind (arith, nat_tests) in
    ap (λ b. cond b (l ∷ loaded_from from loaded) (loaded_from from loaded)) late ∙ ap (λ ls. l ∷ ls) (all_from from (l.version + 1) next loaded (omega arith) are.2)
