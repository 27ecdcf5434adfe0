-- Lists without elements, halves of lists, and tests of all of their elements.
use Rattle.std.proofs.Common.{◌≡◌, ◌≤◌, ℕ, zero, suc, List, [], ◌∷◌, ◌++◌, map, take, drop, flat_map, Bool, true, false, not, ◌&&◌, Option, Some, None, refl, sym, ◌∙◌, ap}
use Rattle.std.specs.Prelude.{◌||◌, cond, filter, slice_get}
use Rattle.std.specs.List.{AllByRecursion, list_all}

pub none_first : {A : Type 0} (xs : List A) → slice_get xs 0 ≡ None → xs ≡ []
none_first [] e = refl
none_first (x ∷ xs) e = absurd cc

pub both_nil : {A : Type 0} (xs ys : List A) → xs ++ ys ≡ [] → (xs ≡ []) × (ys ≡ [])
both_nil [] ys e = (refl, e)
both_nil (x ∷ xs) ys e = absurd cc

pub nil_map : {A B : Type 0} (f : A → B) (xs : List A) → map f xs ≡ [] → xs ≡ []
nil_map f [] e = refl
nil_map f (x ∷ xs) e = absurd cc

pub flat_nil : {A B : Type 0} (f : A → List B) (xs : List A) → flat_map f xs ≡ [] → AllByRecursion (λ x. f x ≡ []) xs
flat_nil f [] e = tt
flat_nil f (x ∷ xs) e = let both = both_nil (f x) (flat_map f xs) e in (both.0, flat_nil f xs both.1)

pub nil_flat : {A B : Type 0} (f : A → List B) (xs : List A) → AllByRecursion (λ x. f x ≡ []) xs → flat_map f xs ≡ []
nil_flat f [] all = refl
nil_flat f (x ∷ xs) all = (λ i. all.0 i ++ flat_map f xs) ∙ nil_flat f xs all.1

pub all_one_and_rest : {A : Type 0} (P : A → Type 0) (xs : List A) → AllByRecursion P (take 1 xs) → AllByRecursion P (drop 1 xs) → AllByRecursion P xs
all_one_and_rest P [] one rest = tt
all_one_and_rest P (x ∷ xs) one rest = (one.0, rest)

pub all_one : {A : Type 0} (P : A → Type 0) (xs : List A) → AllByRecursion P xs → AllByRecursion P (take 1 xs)
all_one P [] all = tt
all_one P (x ∷ xs) all = (all.0, tt)

pub all_rest : {A : Type 0} (P : A → Type 0) (xs : List A) → AllByRecursion P xs → AllByRecursion P (drop 1 xs)
all_rest P [] all = tt
all_rest P (x ∷ xs) all = all.1

-- ---- tests

pub and_true : (a b : Bool) → a ≡ true → b ≡ true → (a && b) ≡ true
and_true true b e f = f
and_true false b e f = e

pub true_parts : (a b : Bool) → (a && b) ≡ true → (a ≡ true) × (b ≡ true)
true_parts true b e = (refl, e)
true_parts false b e = absurd cc

pub false_parts : (a b : Bool) → (a || b) ≡ false → (a ≡ false) × (b ≡ false)
false_parts true b e = absurd cc
false_parts false b e = (refl, e)

pub both_false : (a b : Bool) → a ≡ false → b ≡ false → (a || b) ≡ false
both_false true b e f = e
both_false false b e f = f

pub and_false : (a b : Bool) → b ≡ false → (a && b) ≡ false
and_false true b e = e
and_false false b e = refl

pub last_false : (a b : Bool) → a ≡ true → (a && b) ≡ false → b ≡ false
last_false true b e f = f
last_false false b e f = absurd cc

pub not_false : (b : Bool) → not b ≡ false → b ≡ true
not_false true e = refl
not_false false e = absurd cc

pub all_pass : {A : Type 0} (p : A → Bool) (xs : List A) → AllByRecursion (λ x. p x ≡ true) xs → list_all p xs ≡ true
all_pass p [] all = refl
all_pass p (x ∷ xs) all = and_true (p x) (list_all p xs) all.0 (all_pass p xs all.1)

pub passed_all : {A : Type 0} (p : A → Bool) (xs : List A) → list_all p xs ≡ true → AllByRecursion (λ x. p x ≡ true) xs
passed_all p [] e = tt
passed_all p (x ∷ xs) e = let parts = true_parts (p x) (list_all p xs) e in (parts.0, passed_all p xs parts.1)

-- what holds of all holds of those that pass a test
pub all_filtered : {A : Type 0} (P : A → Type 0) (p : A → Bool) (xs : List A) → AllByRecursion P xs → AllByRecursion P (filter p xs)
all_filtered P p [] all = tt
all_filtered P p (x ∷ xs) all = by (p x) (all_filtered P p xs all.1)
  where
    by : (b : Bool) → AllByRecursion P (filter p xs) → AllByRecursion P (cond b (x ∷ filter p xs) (filter p xs))
    by true rest = (all.0, rest)
    by false rest = rest

-- where none passes a test, each fails it
pub none_passes : {A : Type 0} (p : A → Bool) (xs : List A) → filter p xs ≡ [] → AllByRecursion (λ x. p x ≡ false) xs
none_passes p [] e = tt
none_passes p (x ∷ xs) e = by (p x) refl e (λ f. none_passes p xs f)
  where
    by : (b : Bool) → p x ≡ b → cond b (x ∷ filter p xs) (filter p xs) ≡ [] → (filter p xs ≡ [] → AllByRecursion (λ y. p y ≡ false) xs) → (p x ≡ false) × AllByRecursion (λ y. p y ≡ false) xs
    by true is e rest = absurd cc
    by false is e rest = (is, rest e)

-- the first of a list
pub first_all : {A : Type 0} (P : A → Type 0) (xs : List A) (x : A) → slice_get xs 0 ≡ Some x → AllByRecursion P xs → P x
first_all P [] x e all = absurd cc
first_all {A = A} P (y ∷ xs) x e all = (let same : y ≡ x = cc in by same)
  where
    by : y ≡ x → P x
    by same = Rattle.std.proofs.Common.subst P same all.0
