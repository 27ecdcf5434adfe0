-- Pins and their counts.
use Rattle.std.proofs.Common.{◌≡◌, ◌≤◌, ◌+◌, ◌-◌, ℕ, zero, suc, List, [], ◌∷◌, ◌++◌, length, map, set, replicate, Bool, true, false, cond, Some, refl, ◌∙◌, ap, arith}
use Rattle.std.specs.Prelude.{◌||◌, filter, find, is_some, option_map}
use Rattle.std.specs.List.{list_any}
use Rattle.std.proofs.lemmas.List.{append-nil}
use Rattle.mesa_model.specs.Pins.{count_at, counted_at}

-- ---- counts

pub padded : (counts : List ℕ) (place n v : ℕ) → place + 1 ≤ length counts + n → n ≤ place + 1 - length counts → v ≡ count_at counts place + 1 → set (counts ++ replicate n 0) place v ≡ counted_at counts place
padded [] zero zero v a b e = absurd (omega arith)
padded [] zero (suc zero) v a b e = ap (λ w. w ∷ []) e
padded [] zero (suc (suc n)) v a b e = absurd (omega arith)
padded [] (suc place) zero v a b e = absurd (omega arith)
padded [] (suc place) (suc n) v a b e = ap (λ ws. 0 ∷ ws) (padded [] place n v (omega arith) (omega arith) e)
padded (c ∷ counts) zero n v a b e =
    let none : n ≡ zero = omega arith in
    λ j. e j ∷ (ap (λ m. counts ++ replicate m 0) none ∙ append-nil counts) j
padded (c ∷ counts) (suc place) n v a b e = ap (λ ws. c ∷ ws) (padded counts place n v (omega arith) (omega arith) e)

-- ---- pins

pub found_any : {X : Type 0} (p : X → Bool) (xs : List X) → is_some (find p xs) ≡ list_any p xs
found_any p [] = refl
found_any p (x ∷ xs) = elim (p x) as (λ b. is_some (cond b (Some x) (find p xs)) ≡ (b || list_any p xs)) [ true ↦ refl | false ↦ found_any p xs ]

pub any-mapped : {X Y : Type 0} (f : X → Y) (p : Y → Bool) (xs : List X) → list_any (λ x. p (f x)) xs ≡ list_any p (map f xs)
any-mapped f p [] = refl
any-mapped f p (x ∷ xs) = ap (λ b. p (f x) || b) (any-mapped f p xs)

pub find-mapped : {X Y : Type 0} (f : X → Y) (p : Y → Bool) (xs : List X) → find p (map f xs) ≡ option_map f (find (λ x. p (f x)) xs)
find-mapped f p [] = refl
find-mapped f p (x ∷ xs) = elim (p (f x)) as (λ b. cond b (Some (f x)) (find p (map f xs)) ≡ option_map f (cond b (Some x) (find (λ x. p (f x)) xs))) [ true ↦ refl | false ↦ find-mapped f p xs ]

pub filter-mapped : {X Y : Type 0} (f : X → Y) (p : Y → Bool) (xs : List X) → map f (filter (λ x. p (f x)) xs) ≡ filter p (map f xs)
filter-mapped f p [] = refl
filter-mapped f p (x ∷ xs) = elim (p (f x)) as (λ b. map f (cond b (x ∷ filter (λ x. p (f x)) xs) (filter (λ x. p (f x)) xs)) ≡ cond b (f x ∷ filter p (map f xs)) (filter p (map f xs))) [
  | true ↦ ap (λ ys. f x ∷ ys) (filter-mapped f p xs)
  | false ↦ filter-mapped f p xs
]
