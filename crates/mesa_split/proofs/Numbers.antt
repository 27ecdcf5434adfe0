-- Numbers of lists, another one for each.
use Rattle.std.proofs.Common.{◌≡◌, ℕ, zero, suc, ◌+◌, ◌<◌, List, [], ◌∷◌, refl, ap, arith}
use Rattle.std.specs.Prelude.{Option, None, Some}
use Rattle.mesa_split.specs.Held.{doubled, number_of, number_told}

odd_some : (x c : ℕ) → 0 < doubled x (c + c + 1)
odd_some zero c = omega arith
odd_some (suc x) c = omega (arith, odd_some x c)

-- odd numbers that are doubled are the same only where both are
odd_apart : (x y c d : ℕ) → doubled x (c + c + 1) ≡ doubled y (d + d + 1) → (x ≡ y) × (c ≡ d)
odd_apart zero zero c d e = (refl, omega (arith, e))
odd_apart zero (suc y) c d e = absurd (omega (arith, e))
odd_apart (suc x) zero c d e = absurd (omega (arith, e))
odd_apart (suc x) (suc y) c d e = let both = odd_apart x y c d (omega (arith, e)) in (ap suc both.0, both.1)

number_same : (xs ys : List ℕ) → number_of xs ≡ number_of ys → xs ≡ ys
number_same [] [] e = refl
number_same [] (y ∷ ys) e = absurd (omega (arith, e, odd_some y (number_of ys)))
number_same (x ∷ xs) [] e = absurd (omega (arith, e, odd_some x (number_of xs)))
number_same (x ∷ xs) (y ∷ ys) e = let both = odd_apart x y (number_of xs) (number_of ys) e in λ i. both.0 i ∷ number_same xs ys both.1 i

pub told_same : (a b : Option (List ℕ)) → number_told a ≡ number_told b → a ≡ b
told_same None None e = refl
told_same None (Some ys) e = absurd (omega (arith, e))
told_same (Some xs) None e = absurd (omega (arith, e))
told_same (Some xs) (Some ys) e = ap Some (number_same xs ys (omega (arith, e)))
