-- Searching a mapped list.
use Rattle.std.proofs.Common.{◌≡◌, ℕ, ◌+◌, List, [], ◌∷◌, map, Bool, true, false, cond, refl, sym, ◌∙◌, ap, Some}
use Rattle.std.specs.Prelude.{◌&&◌, ◌||◌, find, is_some, position}
use Rattle.std.specs.List.{list_all, list_any, position_from}
use Rattle.std.proofs.lemmas.List.{map-id}
use Rattle.std.proofs.lemmas.Iterator.Adapters.{position_from-zero}

position_from-map : {A B : Type 0} (p : B → Bool) (f : A → B) (i : ℕ) (xs : List A) → position_from p i (map f xs) ≡ position_from (λ x. p (f x)) i xs
position_from-map p f i [] = refl
position_from-map p f i (x ∷ xs) = ap (cond (p (f x)) (Some i)) (position_from-map p f (i + 1) xs)

pub position_map : {A B : Type 0} (p : B → Bool) (f : A → B) (xs : List A) → position p (map f xs) ≡ position (λ x. p (f x)) xs
position_map p f xs = position_from-zero p (map f xs) ∙ position_from-map p f 0 xs ∙ sym (position_from-zero (λ x. p (f x)) xs)

is_some-from : {A : Type 0} (p : A → Bool) (i : ℕ) (xs : List A) → is_some (position_from p i xs) ≡ list_any p xs
is_some-from p i [] = refl
is_some-from p i (x ∷ xs) = elim (p x) as (λ t. is_some (cond t (Some i) (position_from p (i + 1) xs)) ≡ (t || list_any p xs)) [ true ↦ refl | false ↦ is_some-from p (i + 1) xs ]

-- Something passes exactly where there is a first that does.
pub is_some_position : {A : Type 0} (p : A → Bool) (xs : List A) → is_some (position p xs) ≡ list_any p xs
is_some_position p xs = ap is_some (position_from-zero p xs) ∙ is_some-from p 0 xs

-- Something is found exactly where something passes.
pub is_some_find : {A : Type 0} (p : A → Bool) (xs : List A) → is_some (find p xs) ≡ list_any p xs
is_some_find p [] = refl
is_some_find p (x ∷ xs) = elim (p x) as (λ t. is_some (cond t (Some x) (find p xs)) ≡ (t || list_any p xs)) [ true ↦ refl | false ↦ is_some_find p xs ]

-- A list of names is the list of its names.
pub map_same : (xs : List (List ℕ)) → map (λ x. x) xs ≡ xs
map_same xs = map-id xs

-- All of a mapped list pass where all of the list do.
pub all_mapped : {A B : Type 0} (p : B → Bool) (f : A → B) (xs : List A) → list_all p (map f xs) ≡ list_all (λ x. p (f x)) xs
all_mapped p f [] = refl
all_mapped p f (x ∷ xs) = ap (λ b. p (f x) && b) (all_mapped p f xs)
