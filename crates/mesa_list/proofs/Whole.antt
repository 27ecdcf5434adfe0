-- Lists of which every element is of a kind, and bytes.
use Rattle.std.proofs.Common.{ℕ, zero, suc, ◌^◌, ◌<◌, List, [], ◌∷◌, ◌++◌, take, drop, refl, arith, Bool, true, false}
use Rattle.std.specs.Prelude.{◌&&◌, IsTrue, slice_index}
use Rattle.std.specs.List.{AllByRecursion}

pub each_split : {X : Type 0} (P : X → Type 0) (xs ys : List X) → AllByRecursion P (xs ++ ys) → AllByRecursion P xs × AllByRecursion P ys
each_split P [] ys all = (tt, all)
each_split P (x ∷ xs) ys all = let p = each_split P xs ys all.1 in ((all.0, p.0), p.1)

pub each_join : {X : Type 0} (P : X → Type 0) (xs ys : List X) → AllByRecursion P xs → AllByRecursion P ys → AllByRecursion P (xs ++ ys)
each_join P [] ys a b = b
each_join P (x ∷ xs) ys a b = (a.0, each_join P xs ys a.1 b)

pub each_push : {X : Type 0} (P : X → Type 0) (xs : List X) (x : X) → AllByRecursion P xs → P x → AllByRecursion P (xs ++ x ∷ [])
each_push P xs x a b = each_join P xs (x ∷ []) a (b, tt)

pub each_cut : {X : Type 0} (P : X → Type 0) (n : ℕ) (xs : List X) → AllByRecursion P xs → AllByRecursion P (take n xs) × AllByRecursion P (drop n xs)
each_cut P zero xs all = (tt, all)
each_cut P (suc n) [] all = (tt, tt)
each_cut P (suc n) (x ∷ xs) all = let rest = each_cut P n xs all.1 in ((all.0, rest.0), rest.1)

abbrev pub IsByte : ℕ → Type 0
IsByte b = b < 256

-- A list's numbers are bytes, by their places and one after the other.
pub all_bytes : (bytes : List ℕ) → ((i : ℕ) → slice_index bytes i < 2 ^ 8) → AllByRecursion IsByte bytes
all_bytes [] are = tt
all_bytes (b ∷ bytes) are = (are 0, all_bytes bytes (λ i. are (suc i)))

pub are_bytes : (bytes : List ℕ) → AllByRecursion IsByte bytes → (i : ℕ) → slice_index bytes i < 2 ^ 8
are_bytes [] all i = omega arith
are_bytes (b ∷ bytes) all zero = all.0
are_bytes (b ∷ bytes) all (suc i) = are_bytes bytes all.1 i

-- both parts of a conjunction
pub both : (a b : Bool) → IsTrue (a && b) → IsTrue a × IsTrue b
both true true t = (refl, refl)
both true false t = cc
both false b t = cc
