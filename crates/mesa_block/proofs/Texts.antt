-- The first text that is none.
use Rattle.std.proofs.Common.{◌≡◌, inl, inr, ℕ, ◌+◌, ◌<◌, List, [], length, get_or, eq-or-lt_of_le, refl, sym, ap, ◌∙◌, arith, Bool, true, false, cond}
use Rattle.std.specs.Prelude.{Option, Some, None, position, not, nat_lt}
use Rattle.mesa_columns.specs.mesa_key.Spelling.{is_key_text}
use Rattle.std.proofs.lemmas.Bool.{lt-ltb, le-ltb}
use Rattle.std.proofs.lemmas.List.Sums.{position_or_len_is}

abbrev is_bad : List ℕ → Bool
is_bad cell = not (is_key_text cell)

abbrev told : List (List ℕ) → ℕ → Option ℕ
told cells n = cond (nat_lt n (length cells)) (Some n) None

pub first_bad : (cells : List (List ℕ)) (i : ℕ) → i < length cells → ((k : ℕ) → k < i → is_key_text (get_or cells k []) ≡ true) → is_key_text (get_or cells i []) ≡ false → Some i ≡ position (λ cell. not (is_key_text cell)) cells
first_bad cells i lt before here =
    let at = position_or_len_is is_bad cells i [] (omega (arith, lt)) (λ k less. ap not (before k less)) (λ within. ap not here) in
    sym (ap (told cells) at ∙ rw (lt-ltb i (length cells) lt) refl)

pub none_bad : (cells : List (List ℕ)) (n : ℕ) → n ≡ length cells → ((k : ℕ) → k < n → is_key_text (get_or cells k []) ≡ true) → None ≡ position (λ cell. not (is_key_text cell)) cells
none_bad cells n is before =
    let at = position_or_len_is is_bad cells n [] (omega (arith, is)) (λ k less. ap not (before k less)) (λ within. absurd (omega (arith, is, within))) in
    sym (ap (told cells) at ∙ rw (le-ltb n (length cells) (omega (arith, is))) refl)

pub one_further : (cells : List (List ℕ)) (i : ℕ) → ((k : ℕ) → k < i → is_key_text (get_or cells k []) ≡ true) → is_key_text (get_or cells i []) ≡ true → (k : ℕ) → k < i + 1 → is_key_text (get_or cells k []) ≡ true
one_further cells i before here k lt = elim (eq-or-lt_of_le (omega (arith, lt))) [
  | inl same ↦ ap (λ (n : ℕ). is_key_text (get_or cells n [])) same ∙ here
  | inr less ↦ before k less
]
