-- Hexadecimal in lower case, as the crate hex reads it.
use Rattle.std.proofs.Common.{◌≡◌, ℕ, ◌+◌, ◌*◌, ◌%◌, List, [], ◌∷◌, length, Bool, true, false, cond, refl, sym, ◌∙◌, ap, arith, mul_comm, Option, Some, None, Result, Ok, Err}
use Rattle.std.specs.Prelude.{◌&&◌, ◌==◌, is_some}
use Rattle.std.specs.List.{list_all}
use Rattle.std.proofs.lemmas.Bool.{and_parts, eqb-true}
use Rattle.std.proofs.lemmas.Bool.Decides.{nat_tests}
use Rattle.hex.specs.declared.error.FromHexError.{FromHexError}
use Rattle.hex.specs.declared.error.FromHexError.TheVariants.{OddLength}
use Rattle.hex.specs.Hex.{◌>>=◌, digit_or_error, decode_of, decode_pairs, hex_digit_value}
use Rattle.mesa_filter.specs.Hex.{bytes_of_hex, hex_value, with_byte}

-- a lower case digit
abbrev pub is_lower_digit : ℕ → Bool
is_lower_digit b = is_some (hex_value b)

-- it has its value there too
same_digit : (c : ℕ) → is_lower_digit c ≡ true → hex_digit_value c ≡ hex_value c
same_digit c h = grind (arith, nat_tests)

-- digits that aren't all in lower case
unread : (high low : Option ℕ) (more : Bool) (rest : Option (List ℕ)) → (is_some high && (is_some low && more)) ≡ false → (more ≡ false → rest ≡ None) → with_byte high low rest ≡ None
unread None low more rest h f = refl
unread (Some a) None more rest h f = refl
unread (Some a) (Some b) more rest h f = ap (with_byte (Some a) (Some b)) (f h)

pub not_lower : (digits : List ℕ) → list_all is_lower_digit digits ≡ false → bytes_of_hex digits ≡ None
not_lower [] h = cc
not_lower (a ∷ []) h = refl
not_lower (a ∷ b ∷ rest) h = unread (hex_value a) (hex_value b) (list_all is_lower_digit rest) (bytes_of_hex rest) h (not_lower rest)

no_rest : (high low : Option ℕ) → with_byte high low None ≡ None
no_rest None low = refl
no_rest (Some a) None = refl
no_rest (Some a) (Some b) = refl

-- an odd number of digits
odd_none : (digits : List ℕ) → length digits % 2 ≡ 1 → bytes_of_hex digits ≡ None
odd_none [] h = absurd (omega arith)
odd_none (a ∷ []) h = refl
odd_none (a ∷ b ∷ rest) h = ap (with_byte (hex_value a) (hex_value b)) (odd_none rest (omega arith)) ∙ no_rest (hex_value a) (hex_value b)

-- what the crate answers, without its reasons
abbrev pub read : Result (List ℕ) FromHexError → Option (List ℕ)
read (Ok bytes) = Some bytes
read (Err e) = None

pair_read : (a b i : ℕ) (high low : Option ℕ) (more : Result (List ℕ) FromHexError) (rest : Option (List ℕ)) → is_some high ≡ true → is_some low ≡ true → rest ≡ read more
    → with_byte high low rest ≡ read ((digit_or_error a i high >>= (λ h. digit_or_error b (i + 1) low >>= (λ l. Ok (h * 16 + l)))) >>= (λ byte. more >>= (λ bytes. Ok (byte ∷ bytes))))
pair_read a b i None low more rest h l e = cc
pair_read a b i (Some x) None more rest h l e = cc
pair_read a b i (Some x) (Some y) (Ok bytes) rest h l e = ap (with_byte (Some x) (Some y)) e ∙ ap (λ n. Some ((n + y) ∷ bytes)) (mul_comm 16 x)
pair_read a b i (Some x) (Some y) (Err f) rest h l e = ap (with_byte (Some x) (Some y)) e

pairs_read : (i : ℕ) (digits : List ℕ) → list_all is_lower_digit digits ≡ true → bytes_of_hex digits ≡ read (decode_pairs i digits)
unfolding decode_pairs
pairs_read i [] h = refl
pairs_read i (a ∷ []) h = refl
pairs_read i (a ∷ b ∷ rest) h =
    let first = and_parts (is_lower_digit a) (is_lower_digit b && list_all is_lower_digit rest) h in
    let second = and_parts (is_lower_digit b) (list_all is_lower_digit rest) first.1 in
    rw (same_digit a first.0, same_digit b second.0) (pair_read a b i (hex_value a) (hex_value b) (decode_pairs (i + 2) rest) (bytes_of_hex rest) first.0 second.0 (pairs_read (i + 2) rest second.1))

-- Lower case digits are read by the crate.
lower_read : (digits : List ℕ) → list_all is_lower_digit digits ≡ true → bytes_of_hex digits ≡ read (decode_of digits)
lower_read digits h =
    elim (length digits % 2 == 1) as (λ t. (length digits % 2 == 1) ≡ t → bytes_of_hex digits ≡ read (cond t (Err OddLength) (decode_pairs 0 digits))) [
      | true ↦ λ odd. odd_none digits (eqb-true (length digits % 2) 1 odd)
      | false ↦ λ _. pairs_read 0 digits h
    ] refl

pub bytes_read : (digits bytes : List ℕ) → list_all is_lower_digit digits ≡ true → decode_of digits ≡ Ok bytes → Some bytes ≡ bytes_of_hex digits
bytes_read digits bytes h e = sym (lower_read digits h ∙ ap read e)

pub none_read : (digits : List ℕ) (e : FromHexError) → list_all is_lower_digit digits ≡ true → decode_of digits ≡ Err e → None ≡ bytes_of_hex digits
none_read digits e h f = sym (lower_read digits h ∙ ap read f)
