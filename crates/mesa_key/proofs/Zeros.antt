-- Where a text ends: at the first zero byte.
use Rattle.std.proofs.Common.{◌≡◌, ℕ, zero, suc, ◌+◌, ◌<◌, ◌≤◌, List, [], ◌∷◌, length, take, refl, sym, ◌∙◌, ap, arith, true, false, cond}
use Rattle.std.specs.Prelude.{◌==◌, Some, None, position, nat_le}
use Rattle.std.specs.List.{position_or_len}
use Rattle.std.proofs.lemmas.List.Recursion.{is_position_or_len}
use Rattle.std.proofs.lemmas.Option.{cond_some}
use Rattle.std.proofs.lemmas.Bool.{ltb-true, ltb-false, le-leb, leb-false, leb-true, ne_eqb}
use Rattle.std.proofs.lemmas.List.{take_all, length-take, length-take-le}
use Rattle.std.proofs.Math.Bool.{and-false}
use Rattle.mesa_key.specs.Spelling.{before_zero, column_length, is_column}
use Rattle.mesa_value.proofs.mesa_list.Splits.{untrue}
use Rattle.mesa_key.specs.Columns.{is_whole}
use Rattle.mesa_key.specs.declared.KeyType.{KeyType}
use Rattle.mesa_key.specs.declared.KeyType.TheVariants as kind

-- the bytes before the first zero reach up to it
before_zero-cons : (x : ℕ) (xs : List ℕ) → length (before_zero (x ∷ xs)) ≡ cond (x == 0) 0 (1 + length (before_zero xs))
unfolding before_zero
before_zero-cons x xs = elim (x == 0) as (λ t. length (cond t [] (x ∷ before_zero xs)) ≡ cond t 0 (1 + length (before_zero xs))) [ true ↦ refl | false ↦ omega arith ]

length-before_zero : (xs : List ℕ) → length (before_zero xs) ≡ position_or_len (λ b. b == 0) xs
unfolding before_zero
length-before_zero xs = is_position_or_len (λ bytes. length (before_zero bytes)) (λ b. b == 0) refl before_zero-cons xs

before_zero-within : (xs : List ℕ) → length (before_zero xs) ≤ length xs
unfolding before_zero
before_zero-within [] = omega arith
before_zero-within (x ∷ xs) = elim (x == 0) as (λ t. length (cond t [] (x ∷ before_zero xs)) ≤ suc (length xs)) [ true ↦ omega arith | false ↦ omega (arith, before_zero-within xs) ]

-- a zero was found
pub zero_at : (xs : List ℕ) (n : ℕ) → position (λ b. b == 0) xs ≡ Some n → (length (before_zero xs) ≡ n) × (n < length xs)
zero_at xs n e =
    let found = cond_some _ _ _ e in
    let below : position_or_len (λ b. b == 0) xs < length xs = ltb-true _ _ found.0 in
    (length-before_zero xs ∙ found.1, omega (arith, found.1))

-- none was found
pub zero_nowhere : (xs : List ℕ) → position (λ b. b == 0) xs ≡ None → length (before_zero xs) ≡ length xs
zero_nowhere xs e =
    let past : length xs ≤ position_or_len (λ b. b == 0) xs = ltb-false _ _ (untrue _ _ e) in
    omega (arith, length-before_zero xs, before_zero-within xs)

-- what lies behind the first zero doesn't matter
pub before_zero-take : (k : ℕ) (xs : List ℕ) → length (before_zero xs) ≤ k → before_zero (take k xs) ≡ before_zero xs
unfolding before_zero
before_zero-take zero [] h = refl
before_zero-take (suc k) [] h = refl
before_zero-take zero (x ∷ xs) h = elim (x == 0) as (λ t. length (cond t [] (x ∷ before_zero xs)) ≤ 0 → [] ≡ cond t [] (x ∷ before_zero xs)) [ true ↦ λ _. refl | false ↦ λ l. absurd (omega arith) ] h
before_zero-take (suc k) (x ∷ xs) h = elim (x == 0) as (λ t. length (cond t [] (x ∷ before_zero xs)) ≤ suc k → cond t [] (x ∷ before_zero (take k xs)) ≡ cond t [] (x ∷ before_zero xs)) [ true ↦ λ _. refl | false ↦ λ l. ap (λ r. x ∷ r) (before_zero-take k xs (omega arith)) ] h

-- where no zero stands, there is no text column
pub no_text_column : (xs : List ℕ) → length (before_zero xs) ≡ length xs → is_column kind.Text (take (column_length kind.Text xs) xs) ≡ false
no_text_column xs e =
    let all : take (length (before_zero xs) + 1) xs ≡ xs = take_all _ xs (omega arith) in
    let past : (length (before_zero xs) + 1 == length xs) ≡ false = ne_eqb _ _ (λ same. omega arith) in
    rw (all, past) (and-false _)

not_within : (a b : ℕ) → b < a → nat_le a b ≡ false
not_within a b h = elim (nat_le a b) as (λ t. nat_le a b ≡ t → t ≡ false) [ true ↦ λ e. absurd (omega (arith, leb-true a b e)) | false ↦ λ e. refl ] refl

-- Where a zero stands, a text column ends there, and it is whole.
pub record EndsAt (bytes : List ℕ) (end : ℕ) : Type 0 where
  pub whole : true ≡ is_whole kind.Text bytes
  pub length : end + 1 ≡ column_length kind.Text bytes

pub text_ends : (bytes : List ℕ) (end : ℕ) → position (λ b. b == 0) bytes ≡ Some end → EndsAt bytes end
text_ends bytes end e =
    let zero = zero_at bytes end e in
    record {
      whole = sym (le-leb (length (before_zero bytes) + 1) (length bytes) (omega (arith, zero.0, zero.1)));
      length = ap (λ n. n + 1) (sym zero.0);
    }

-- Without a zero there is none.
pub no_text : (bytes : List ℕ) → position (λ b. b == 0) bytes ≡ None → false ≡ is_whole kind.Text bytes
no_text bytes e = sym (not_within (length (before_zero bytes) + 1) (length bytes) (omega (arith, zero_nowhere bytes e)))

-- A column that bytes hold whole is one by itself.
pub alone : (type : KeyType) (bytes : List ℕ) (n : ℕ) → n ≡ column_length type bytes → n ≤ length bytes → column_length type (take n bytes) ≡ length (take n bytes)
alone kind.Int bytes n e h = omega (arith, length-take-le n bytes h)
alone kind.Text bytes n e h = omega (arith, length-take-le n bytes h, ap length (before_zero-take n bytes (omega arith)))

-- A column that bytes don't hold whole is none.
pub cut_column : (type : KeyType) (bytes : List ℕ) → is_whole type bytes ≡ false → is_column type (take (column_length type bytes) bytes) ≡ false
cut_column kind.Int bytes h =
    let past : length bytes < 8 = leb-false 8 (length bytes) h in
    ne_eqb (length (take 8 bytes)) 8 (λ same. omega (arith, length-take 8 bytes))
cut_column kind.Text bytes h =
    let past : length bytes < length (before_zero bytes) + 1 = leb-false _ _ h in
    no_text_column bytes (omega (arith, before_zero-within bytes))
