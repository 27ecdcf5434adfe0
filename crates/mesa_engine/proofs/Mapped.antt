-- Pins and queries as the state has them: what is found and left among them; and files that are freed.
use Rattle.std.proofs.Common.{◌≡◌, ◌≤◌, List, [], ◌∷◌, ◌++◌, length, map, Bool, true, false, cond, refl, ◌∙◌, ap, arith, Some}
use Rattle.std.specs.Prelude.{filter, find, not, option_map}
use Rattle.std.proofs.lemmas.List.{map-append}
use Rattle.std.proofs.lemmas.List.Elements.{filter-append}
use Rattle.std.proofs.lemmas.List.Filters.{length-filter_both}
use Rattle.mesa_commit.specs.declared.trash.Dropped.{Dropped}
use Rattle.mesa_commit.specs.declared.trash.Hold.{Hold}
use Rattle.mesa_commit.specs.Holding.{freed, ids_of}

pub find_mapped : {X Y : Type 0} (f : X → Y) (p : Y → Bool) (xs : List X) → option_map f (find (λ x. p (f x)) xs) ≡ find p (map f xs)
find_mapped f p [] = refl
find_mapped f p (x ∷ xs) = elim (p (f x)) as (λ b. option_map f (cond b (Some x) (find (λ x. p (f x)) xs)) ≡ cond b (Some (f x)) (find p (map f xs))) [ true ↦ refl | false ↦ find_mapped f p xs ]

pub filter_mapped : {X Y : Type 0} (f : X → Y) (p : Y → Bool) (xs : List X) → map f (filter (λ x. p (f x)) xs) ≡ filter p (map f xs)
filter_mapped f p [] = refl
filter_mapped f p (x ∷ xs) = elim (p (f x)) as (λ b. map f (cond b (x ∷ filter (λ x. p (f x)) xs) (filter (λ x. p (f x)) xs)) ≡ cond b (f x ∷ filter p (map f xs)) (filter p (map f xs))) [
  | true ↦ ap (λ ys. f x ∷ ys) (filter_mapped f p xs)
  | false ↦ filter_mapped f p xs
]

pub fewer : {X : Type 0} (p : X → Bool) (xs : List X) → length (filter p xs) ≤ length xs
fewer p xs = let both = length-filter_both p (λ x. not (p x)) (λ x. refl) xs in omega (arith, both)

-- the files that are freed, of these and of those
pub freed_joined : (hs : List Hold) (xs ys : List Dropped) → ids_of (freed hs (xs ++ ys)) ≡ ids_of (freed hs xs) ++ ids_of (freed hs ys)
freed_joined hs xs ys = ap ids_of (filter-append _ xs ys) ∙ map-append _ (freed hs xs) (freed hs ys)
