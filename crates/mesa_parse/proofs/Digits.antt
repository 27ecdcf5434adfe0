-- Number words, digit by digit.
use Rattle.std.proofs.Common.{◌≡◌, ◌<◌, ◌≤◌, ◌+◌, ◌-◌, ◌*◌, ℕ, suc, List, [], ◌∷◌, length, drop, get_or, true, false, refl, sym, ap, ◌∙◌, arith, drop-cons, add-one, Option, Some, None, Result, Ok, Err}
use Rattle.std.specs.Prelude.{◌==◌, ◌&&◌, nat_le, if◌then◌else◌}
use Rattle.std.specs.Option.{ok_or}
use Rattle.std.proofs.Math.Bool.{and-false}
use Rattle.std.proofs.lemmas.Bool.{lt-leb}
use Rattle.mesa_list.specs.Checks.{◌>>=◌, ◌>>◌, refuse_unless}
use Rattle.mesa_columns.specs.Names.{is_digit}
use Rattle.mesa_columns.specs.Numbers.{digits_from}
use Rattle.mesa_script.specs.declared.script.Reason.{Reason}
use Rattle.mesa_script.specs.declared.script.Reason.TheVariants as reason
use Rattle.mesa_script.specs.Records.{is_between}
use Rattle.mesa_script.specs.Words.{number_in}

-- a number in a range, if there is one
abbrev within : ℕ → ℕ → Option ℕ → Result ℕ Reason
within low high o = do
  n ← ok_or o reason.Number
  refuse_unless (is_between low high n) reason.Number
  Ok n

-- digits go on from where they stand
one_digit : (n b : ℕ) (bytes : List ℕ) → is_digit b ≡ true → digits_from n (b ∷ bytes) ≡ digits_from (10 * n + (b - 48)) bytes
one_digit n b bytes e = ap (λ t. if t then digits_from (10 * n + (b - 48)) bytes else None) e

digit_more : (n i : ℕ) (word : List ℕ) → i < length word → is_digit (get_or word i 0) ≡ true → digits_from n (drop i word) ≡ digits_from (10 * n + (get_or word i 0 - 48)) (drop (i + 1) word)
digit_more n i word l e =
    ap (digits_from n) (drop-cons word i 0 l) ∙ one_digit n (get_or word i 0) (drop (suc i) word) e
    ∙ ap (λ k. digits_from (10 * n + (get_or word i 0 - 48)) (drop k word)) (sym (add-one i))

-- a number only grows
grows : (n k : ℕ) (bytes : List ℕ) → digits_from n bytes ≡ Some k → n ≤ k
grows n k [] e = let same : n ≡ k = cc e in omega arith
grows n k (b ∷ bytes) e =
    elim (is_digit b) as (λ t. (if t then digits_from (10 * n + (b - 48)) bytes else None) ≡ Some k → n ≤ k) [
      | true ↦ λ h. let more = grows (10 * n + (b - 48)) k bytes h in omega (arith, more)
      | false ↦ λ h. cc
    ] e

-- one past the greatest is refused, and so is none
over : (low high n : ℕ) (o : Option ℕ) → high < n → ((k : ℕ) → o ≡ Some k → n ≤ k) → within low high o ≡ Err reason.Number
over low high n None l g = refl
over low high n (Some k) l g =
    let least : n ≤ k = g k refl in
    let big : nat_le k high ≡ false = lt-leb k high (omega arith) in
    let no : (nat_le low k && nat_le k high) ≡ false = rw big (and-false (nat_le low k)) in
    rw no refl

some_word : (low high : ℕ) (word : List ℕ) → (length word == 0) ≡ false → number_in low high word ≡ within low high (digits_from 0 word)
some_word low high [] h = cc
some_word low high (b ∷ bytes) h = refl

-- A digit by which the number passes the greatest decides, whatever follows it.
pub too_great : (low high n i : ℕ) (word : List ℕ) → (length word == 0) ≡ false → digits_from n (drop i word) ≡ digits_from 0 word → i < length word → is_digit (get_or word i 0) ≡ true → high < 10 * n + (get_or word i 0 - 48)
    → Err reason.Number ≡ number_in low high word
too_great low high n i word some same l e h =
    let next : ℕ = 10 * n + (get_or word i 0 - 48) in
    sym (some_word low high word some ∙ ap (within low high) (sym same) ∙ ap (within low high) (digit_more n i word l e) ∙ over low high next (digits_from next (drop (i + 1) word)) h (λ k f. grows next k (drop (i + 1) word) f))
