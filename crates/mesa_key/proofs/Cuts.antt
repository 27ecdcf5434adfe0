-- Fronts of lists.
use Rattle.std.proofs.Common.{◌≡◌, ℕ, ◌+◌, ◌-◌, ◌≤◌, List, ◌++◌, length, take, drop, sym, ◌∙◌, ap, arith, inl, inr, append-nil, length-append, replicate, min}
use Rattle.std.proofs.lemmas.Bool.{cases_lt}
use Rattle.std.proofs.lemmas.List.{take-take, take_all, take_at, take-append-le, drop-replicate, take-replicate}
use Rattle.std.proofs.Math.Seq.{take-append-add}
use Rattle.mesa_key.specs.Order.{short_key}

-- A list that was appended to is cut back to what it was.
pub cut_back : (old more now : List ℕ) (start n : ℕ) → start ≡ length old → n ≡ length (old ++ more) → take n now ≡ old ++ more → take start now ≡ old
cut_back old more now start n e f kept =
    let within : start ≤ n = omega (arith, length-append old more) in
    sym (take-take start n now within) ∙ ap (take start) kept ∙ take_at old more start (sym e)

-- Sixteen zeros, over which the first bytes are written, are the short key.
pub filled : (bytes : List ℕ) → take (min (length bytes) 16) bytes ++ drop (min (length bytes) 16) (replicate 16 0) ≡ short_key bytes
filled bytes = elim (cases_lt (length bytes) 16) [
  | inl lt ↦
      let all : min (length bytes) 16 ≡ length bytes = omega arith in
      let seam : 16 ≡ length bytes + (16 - length bytes) = omega arith in
      let left : take (length bytes) bytes ++ drop (length bytes) (replicate 16 0) ≡ bytes ++ replicate (16 - length bytes) 0 =
      ap (λ xs. xs ++ drop (length bytes) (replicate 16 0)) (take_all (length bytes) bytes (omega arith)) ∙ ap (λ xs. bytes ++ xs) (drop-replicate (length bytes) 16 0) in
      let right : take (length bytes + (16 - length bytes)) (bytes ++ replicate 16 0) ≡ bytes ++ replicate (16 - length bytes) 0 =
      take-append-add bytes (replicate 16 0) (16 - length bytes) ∙ ap (λ xs. bytes ++ xs) (take-replicate (16 - length bytes) 16 0 (omega arith)) in
      ap (λ n. take n bytes ++ drop n (replicate 16 0)) all ∙ left ∙ sym right ∙ ap (λ n. take n (bytes ++ replicate 16 0)) (sym seam)
  | inr ge ↦
      let whole : min (length bytes) 16 ≡ 16 = omega arith in
      ap (λ n. take n bytes ++ drop n (replicate 16 0)) whole ∙ append-nil (take 16 bytes) ∙ sym (take-append-le 16 bytes (replicate 16 0) ge)
]
