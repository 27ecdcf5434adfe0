-- Hexadecimal, as the encoder writes it.
use Rattle.std.proofs.Common.{◌≡◌, ℕ, zero, suc, ◌/◌, ◌%◌, ◌<◌, List, [], ◌∷◌, get_or, Bool, true, refl, ap, arith, inl, inr}
use Rattle.std.specs.Prelude.{◌&&◌, ◌==◌, slice_index}
use Rattle.std.proofs.lemmas.Bool.{and_parts, cases_lt, eqb-true}
use Rattle.hex.specs.Hex.{encode_lower, encode_with, lower_digits}
use Rattle.mesa_filter.specs.Hex.{hex_digit, hex_of}

-- the digits of the first numbers are the same
abbrev same_digits : ℕ → Bool
same_digits zero = true
same_digits (suc n) = (slice_index lower_digits n == hex_digit n) && same_digits n

same_digit : (n d : ℕ) → same_digits n ≡ true → d < n → slice_index lower_digits d ≡ hex_digit d
same_digit zero d h l = absurd (omega arith)
same_digit (suc n) d h l =
    let parts = and_parts (slice_index lower_digits n == hex_digit n) (same_digits n) h in
    elim (cases_lt d n) [
      | inl below ↦ same_digit n d parts.1 below
      | inr top ↦
          let e : d ≡ n = omega arith in
          rw e (eqb-true (slice_index lower_digits n) (hex_digit n) parts.0)
    ]

-- the encoder writes each byte as two digits
pub hex_text : (bytes : List ℕ) → ((i : ℕ) → get_or bytes i 0 < 256) → encode_lower bytes ≡ hex_of bytes
unfolding encode_with
hex_text [] h = refl
hex_text (b ∷ bytes) h =
    let byte : b < 256 = h 0 in
    let high : slice_index lower_digits (b / 16) ≡ hex_digit (b / 16) = same_digit 16 (b / 16) refl (omega arith) in
    let low : slice_index lower_digits (b % 16) ≡ hex_digit (b % 16) = same_digit 16 (b % 16) refl (omega arith) in
    let more : encode_lower bytes ≡ hex_of bytes = hex_text bytes (λ i. h (suc i)) in
    rw (high, low) (ap (λ digits. hex_digit (b / 16) ∷ hex_digit (b % 16) ∷ digits) more)
