-- Elements at a place of a list.
use Rattle.std.proofs.Common.{◌≡◌, ℕ, zero, suc, ◌+◌, ◌<◌, List, [], ◌∷◌, ◌++◌, Option, Some, length, map, take, drop, refl, sym, ap, subst, ◌∙◌, arith}
use Rattle.std.specs.Prelude.{slice_get, slice_index_or, IfSome}

-- an element, between those before it and those behind it
pub record Splits {A : Type 0} (i : ℕ) (xs : List A) : Type 0 where
  pub x : A
  pub at : slice_get xs i ≡ Some x
  pub front : take (i + 1) xs ≡ take i xs ++ x ∷ []
  pub back : drop i xs ≡ x ∷ drop (i + 1) xs

pub splits_at : {A : Type 0} (i : ℕ) (xs : List A) → i < length xs → Splits i xs
splits_at i [] lt = absurd (omega arith)
splits_at zero (x ∷ xs) lt = record { x = x; at = refl; front = refl; back = refl }
splits_at {A = A} (suc i) (x ∷ xs) lt =
    let s = splits_at i xs (omega arith) in
    let next : suc i + 1 ≡ suc (i + 1) = omega arith in
    record {
      x = s.x;
      at = s.at;
      front = ap (λ (n : ℕ). take n (x ∷ xs)) next ∙ ap (λ (ys : List A). x ∷ ys) s.front;
      back = s.back ∙ ap (λ (n : ℕ). s.x ∷ drop n (x ∷ xs)) (sym next);
    }

-- what a clause says of an element that is there
pub if_some : {A : Type 0} (P : A → Type 0) (o : Option A) (x : A) → o ≡ Some x → IfSome o P → P x
if_some {A = A} P o x is h = subst (λ (v : Option A). IfSome v P) is h

pub index_at : {A : Type 0} (xs : List A) (i : ℕ) (d x : A) → slice_get xs i ≡ Some x → slice_index_or xs i d ≡ x
index_at [] i d x is = cc
index_at (y ∷ ys) zero d x is = cc
index_at (y ∷ ys) (suc i) d x is = index_at ys i d x is

pub index_map : {A B : Type 0} (f : A → B) (xs : List A) (i : ℕ) (d : B) (x : A) → slice_get xs i ≡ Some x → slice_index_or (map f xs) i d ≡ f x
index_map f [] i d x is = cc
index_map f (y ∷ ys) zero d x is = let same : y ≡ x = cc in ap f same
index_map f (y ∷ ys) (suc i) d x is = index_map f ys i d x is
