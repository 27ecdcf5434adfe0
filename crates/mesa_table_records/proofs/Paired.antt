-- Two lists that are compared pair by pair.
use Rattle.std.proofs.Common.{◌≡◌, List, [], ◌∷◌, length, refl, ◌∙◌, ap, arith, Bool, true, false}
use Rattle.std.specs.Prelude.{◌&&◌, ◌==◌, zip}
use Rattle.std.specs.List.{list_all}
use Rattle.std.proofs.lemmas.Bool.Decides.{nat_tests}
use lib.Pointwise.{pointwise}

pub pairs_all : {X Y : Type 0} (p : X → Y → Bool) (xs : List X) (ys : List Y) → length xs ≡ length ys → list_all (λ (q : X × Y). p q.0 q.1) (zip xs ys) ≡ pointwise p xs ys
pairs_all p [] [] e = refl
pairs_all p [] (y ∷ ys) e = absurd (omega (arith, e))
pairs_all p (x ∷ xs) [] e = absurd (omega (arith, e))
pairs_all p (x ∷ xs) (y ∷ ys) e = ap (λ b. p x y && b) (pairs_all p xs ys (omega (arith, e)))

-- lists that are not as long don't match
pub pairs_other : {X Y : Type 0} (p : X → Y → Bool) (xs : List X) (ys : List Y) → (length xs == length ys) ≡ false → pointwise p xs ys ≡ false
pairs_other p [] [] e = absurd (cc)
pairs_other p [] (y ∷ ys) e = refl
pairs_other p (x ∷ xs) [] e = refl
pairs_other p (x ∷ xs) (y ∷ ys) e =
    let rest : (length xs == length ys) ≡ false = grind (arith, nat_tests) in
    ap (λ b. p x y && b) (pairs_other p xs ys rest) ∙ none (p x y)
  where
    none : (b : Bool) → (b && false) ≡ false
    none true = refl
    none false = refl
