-- One column and its bytes, both ways.
use Rattle.std.proofs.Common.{◌≡◌, ℕ, suc, ◌+◌, ◌-◌, ◌^◌, ◌<◌, ℤ, pos, negsuc, ◌+ℤ◌, ◌-ℤ◌, List, [], ◌∷◌, ◌++◌, length, take, drop, refl, sym, ◌∙◌, ap, arith, Bool, true, false, cond, append_assoc, length-append}
use Rattle.std.specs.Prelude.{◌==◌, not, ◌&&◌, ◌||◌, IsTrue, nat_abs, FitsSigned}
use Rattle.std.specs.List.{list_any}
use Rattle.std.specs.Int.{w64, from_be_bytes}
use Rattle.std.proofs.lemmas.Int.{ints}
use Rattle.std.proofs.Math.ListN.{drop_of_length-le}
use Rattle.std.proofs.lemmas.Bool.{eqb-true, eq-eqb}
use Rattle.std.proofs.lemmas.Nat.{from_be_bytes-to_be_bytes_8, be_bytes_8}
use Rattle.std.proofs.lemmas.List.{take_at, drop_at}
pub use Rattle.mesa_value.proofs.mesa_list.Whole.{both}
use Rattle.mesa_key.specs.declared.KeyValue.{KeyValue}
use Rattle.mesa_key.specs.declared.KeyValue.TheVariants as value
use Rattle.mesa_key.specs.declared.KeyType.{KeyType}
use Rattle.mesa_key.specs.declared.KeyType.TheVariants as kind
use Rattle.mesa_key.specs.Text.{is_key_text}
use Rattle.mesa_key.specs.Spelling.{AreBytes, IsValue, before_zero, column_length, column_value, int_spelling, is_column, value_spelling}

-- a number moved up by 2 ^ 63 is none below 0, and fits 64 bits
pub raised-is : (z : ℤ) → FitsSigned w64 z → (pos (nat_abs (z +ℤ pos (2 ^ 63))) ≡ z +ℤ pos (2 ^ 63)) × (nat_abs (z +ℤ pos (2 ^ 63)) < 2 ^ 64)
raised-is (pos n) f = (refl, omega (arith, ints))
raised-is (negsuc n) f =
    let e : negsuc n +ℤ pos (2 ^ 63) ≡ pos (2 ^ 63 - suc n) = omega (arith, ints) in
    let size : nat_abs (negsuc n +ℤ pos (2 ^ 63)) ≡ 2 ^ 63 - suc n = ap nat_abs e in
    (ap pos size ∙ sym e, omega (arith, size))

-- a test that is denied
denied : (a : Bool) → IsTrue (not a) → a ≡ false
denied true t = cc
denied false t = refl

-- no byte of a key text is zero
pub text_zeros : (bytes : List ℕ) → IsTrue (is_key_text bytes) → list_any (λ b. b == 0) bytes ≡ false
text_zeros bytes t = denied _ (both _ _ (both _ _ t).0).1

-- the bytes before the first zero of a text and a zero are the text
before_zero-text : (bytes more : List ℕ) → list_any (λ b. b == 0) bytes ≡ false → before_zero (bytes ++ 0 ∷ more) ≡ bytes
unfolding before_zero
before_zero-text [] more h = refl
before_zero-text (b ∷ bytes) more h =
    elim (b == 0) as (λ t. (t || list_any (λ x. x == 0) bytes) ≡ false → cond t [] (b ∷ before_zero (bytes ++ 0 ∷ more)) ≡ b ∷ bytes) [
      | true ↦ λ e. cc
      | false ↦ λ e. ap (λ xs. b ∷ xs) (before_zero-text bytes more e)
    ] h

-- a list is what stands before its first zero, the zero, and what stands behind it
pub at_zero : (xs : List ℕ) → length (before_zero xs) < length xs → take (length (before_zero xs)) xs ++ 0 ∷ drop (length (before_zero xs) + 1) xs ≡ xs
unfolding before_zero
at_zero [] h = absurd (omega arith)
at_zero (x ∷ xs) h =
    elim (x == 0) as (λ t. (x == 0) ≡ t → length (cond t [] (x ∷ before_zero xs)) < suc (length xs)
    → take (length (cond t [] (x ∷ before_zero xs))) (x ∷ xs) ++ 0 ∷ drop (length (cond t [] (x ∷ before_zero xs)) + 1) (x ∷ xs) ≡ x ∷ xs) [
      | true ↦ λ e l. ap (λ y. y ∷ xs) (sym (eqb-true x 0 e))
      | false ↦ λ e l.
          let next : suc (length (before_zero xs)) + 1 ≡ suc (length (before_zero xs) + 1) = omega arith in
          ap (λ n. x ∷ (take (length (before_zero xs)) xs ++ 0 ∷ drop n (x ∷ xs))) next ∙ ap (λ rest. x ∷ rest) (at_zero xs (omega arith))
    ] refl h

-- A value's spelling is the column that its bytes and any others begin with.
pub record Begins (kind : KeyType) (value : KeyValue) (more : List ℕ) : Type 0 where
  pub column : take (column_length kind (value_spelling value ++ more)) (value_spelling value ++ more) ≡ value_spelling value
  pub rest : drop (column_length kind (value_spelling value ++ more)) (value_spelling value ++ more) ≡ more
  pub passes : is_column kind (value_spelling value) ≡ true
  pub read : column_value kind (value_spelling value) ≡ value

pub begins : (kind : KeyType) (value : KeyValue) (more : List ℕ) → IsValue kind value → Begins kind value more
begins kind.Int (value.Int z) more h =
    let up = raised-is z h in
    let again : from_be_bytes w64 (int_spelling z) ≡ nat_abs (z +ℤ pos (2 ^ 63)) = from_be_bytes-to_be_bytes_8 _ up.1 in
    let down : pos (nat_abs (z +ℤ pos (2 ^ 63))) -ℤ pos (2 ^ 63) ≡ z = omega (arith, ints, up.0) in
    record {
      column = take_at (int_spelling z) more 8 refl;
      rest = drop_at (int_spelling z) more 8 refl;
      passes = refl;
      read = ap (λ n. value.Int (pos n -ℤ pos (2 ^ 63))) again ∙ ap value.Int down;
    }
begins kind.Int (value.Text t) more h = absurd h
begins kind.Text (value.Int z) more h = absurd h
begins kind.Text (value.Text t) more h =
    let zeros : list_any (λ b. b == 0) t ≡ false = text_zeros t h in
    let joined : (t ++ 0 ∷ []) ++ more ≡ t ++ 0 ∷ more = append_assoc t (0 ∷ []) more in
    let len : length (t ++ 0 ∷ []) ≡ length t + 1 = length-append t (0 ∷ []) in
    let before : length (before_zero ((t ++ 0 ∷ []) ++ more)) + 1 ≡ length t + 1 = ap (λ xs. length (before_zero xs) + 1) joined ∙ ap (λ xs. length xs + 1) (before_zero-text t more zeros) in
    let own : length (before_zero (t ++ 0 ∷ [])) + 1 ≡ length t + 1 = ap (λ xs. length xs + 1) (before_zero-text t [] zeros) in
    let text : take (length (t ++ 0 ∷ []) - 1) (t ++ 0 ∷ []) ≡ t = ap (λ n. take n (t ++ 0 ∷ [])) (omega (arith, len)) ∙ take_at t (0 ∷ []) (length t) refl in
    record {
      column = ap (λ n. take n ((t ++ 0 ∷ []) ++ more)) before ∙ take_at (t ++ 0 ∷ []) more (length t + 1) len;
      rest = ap (λ n. drop n ((t ++ 0 ∷ []) ++ more)) before ∙ drop_at (t ++ 0 ∷ []) more (length t + 1) len;
      passes = ap (λ xs. is_key_text xs && (length (before_zero (t ++ 0 ∷ [])) + 1 == length (t ++ 0 ∷ []))) text ∙ ap (λ b. b && (length (before_zero (t ++ 0 ∷ [])) + 1 == length (t ++ 0 ∷ []))) h ∙ eq-eqb _ _ (own ∙ sym len);
      read = ap value.Text text;
    }

-- A column that passes spells the value that it is read as.
pub record Spells (kind : KeyType) (column : List ℕ) : Type 0 where
  pub value : IsValue kind (column_value kind column)
  pub spelled : value_spelling (column_value kind column) ≡ column

pub spells : (kind : KeyType) (column : List ℕ) → AreBytes column → is_column kind column ≡ true → Spells kind column
spells kind.Int column bytes h =
    let eight : length column ≡ 8 = eqb-true _ _ h in
    let fits : from_be_bytes w64 column < 2 ^ 64 = omega (arith, bytes 0, bytes 1, bytes 2, bytes 3, bytes 4, bytes 5, bytes 6, bytes 7) in
    let up : nat_abs ((pos (from_be_bytes w64 column) -ℤ pos (2 ^ 63)) +ℤ pos (2 ^ 63)) ≡ from_be_bytes w64 column = ap nat_abs (let e : (pos (from_be_bytes w64 column) -ℤ pos (2 ^ 63)) +ℤ pos (2 ^ 63) ≡ pos (from_be_bytes w64 column) = omega (arith, ints) in e) in
    record {
      value = omega (arith, ints);
      spelled = be_bytes_8 column _ eight bytes up;
    }
spells kind.Text column bytes h =
    let parts = both (is_key_text (take (length column - 1) column)) (length (before_zero column) + 1 == length column) h in
    let ends : length (before_zero column) + 1 ≡ length column = eqb-true _ _ parts.1 in
    let none : drop (length (before_zero column) + 1) column ≡ [] = drop_of_length-le column (omega (arith, ends)) in
    let front : length column - 1 ≡ length (before_zero column) = omega arith in
    record {
      value = parts.0;
      spelled = ap (λ n. take n column ++ 0 ∷ []) front ∙ ap (λ xs. take (length (before_zero column)) column ++ 0 ∷ xs) (sym none) ∙ at_zero column (omega arith);
    }
