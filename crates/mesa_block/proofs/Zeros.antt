-- The bytes before the first zero.
use Rattle.std.proofs.Common.{◌≡◌, ◌≢◌, ℕ, zero, suc, ◌≤◌, List, [], ◌∷◌, length, take, refl, ap, arith, inl, inr}
use Rattle.std.proofs.lemmas.Bool.{eq-eqb}
use Rattle.std.proofs.lemmas.Bool.Decides.{eqb_tells}
use Rattle.mesa_columns.specs.mesa_key.Spelling.{before_zero}

pub before_zero-zero : (b : ℕ) (bytes : List ℕ) → b ≡ 0 → before_zero (b ∷ bytes) ≡ []
unfolding before_zero
before_zero-zero b bytes e = rw (eq-eqb b 0 e) refl

pub before_zero-other : (b : ℕ) (bytes : List ℕ) → b ≢ 0 → before_zero (b ∷ bytes) ≡ b ∷ before_zero bytes
unfolding before_zero
before_zero-other b bytes ne = elim (eqb_tells b 0) [
  | inl p ↦ absurd (ne p.1)
  | inr p ↦ rw p.0 refl
]

other : (b : ℕ) (bytes : List ℕ) → before_zero (suc b ∷ bytes) ≡ suc b ∷ before_zero bytes
other b bytes = before_zero-other (suc b) bytes (λ e. cc)

pub before_zero-le : (bytes : List ℕ) → length (before_zero bytes) ≤ length bytes
unfolding before_zero
before_zero-le [] = omega arith
before_zero-le (zero ∷ bytes) = omega arith
before_zero-le (suc b ∷ bytes) = omega (arith, before_zero-le bytes, ap length (other b bytes))

pub before_zero-take : (bytes : List ℕ) → take (length (before_zero bytes)) bytes ≡ before_zero bytes
unfolding before_zero
before_zero-take [] = refl
before_zero-take (zero ∷ bytes) = refl
before_zero-take (suc b ∷ bytes) = rw (other b bytes) (ap (λ (l : List ℕ). suc b ∷ l) (before_zero-take bytes))
