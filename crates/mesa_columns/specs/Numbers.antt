-- Numbers, key values and values as the bytes of a script spell them.
use Rattle.std.specs.Prelude.{ℕ, ◌+◌, ◌-◌, ◌*◌, ◌^◌, ℤ, pos, neg_ℤ, int_le, int_lt, List, [], ◌∷◌, Bool, ◌&&◌, ◌==◌, if◌then◌else◌, Option, Some, None, option_map, option_and_then}
use Rattle.std.specs.Bool.{then_some}
use Rattle.mesa_key.specs.mesa_value.declared.Agg.{Agg}
use Rattle.mesa_key.specs.mesa_value.declared.Agg.TheVariants as agg
use Rattle.mesa_key.specs.declared.KeyType.{KeyType}
use Rattle.mesa_key.specs.declared.KeyType.TheVariants as kind
use Rattle.mesa_key.specs.declared.KeyValue.{KeyValue}
use Rattle.mesa_key.specs.declared.KeyValue.TheVariants as value
use Rattle.mesa_key.specs.Spelling.{is_key_text}
use Rattle.mesa_columns.specs.Names.{is_digit}

-- the number that digits go on from n, or none where a byte is no digit
abbrev pub digits_from : ℕ → List ℕ → Option ℕ
digits_from n [] = Some n
digits_from n (b ∷ bytes) = if is_digit b then digits_from (10 * n + (b - 48)) bytes else None

-- A number word: one or more decimal digits.
abbrev pub number_of : List ℕ → Option ℕ
number_of [] = None
number_of (b ∷ bytes) = digits_from 0 (b ∷ bytes)

-- the numbers of 64 bits
abbrev pub is_i64 : ℤ → Bool
is_i64 z = int_le (neg_ℤ (pos (2 ^ 63))) z && int_lt z (pos (2 ^ 63))

-- an optional sign and digits
abbrev pub any_signed : List ℕ → Option ℤ
any_signed [] = None
any_signed (b ∷ bytes) =
    if b == 43 then option_map pos (number_of bytes)
    else if b == 45 then option_map (λ n. neg_ℤ (pos n)) (number_of bytes)
    else option_map pos (number_of (b ∷ bytes))

-- A signed number: an optional sign and decimal digits, with a value of 64 bits.
abbrev pub signed_of : List ℕ → Option ℤ
signed_of bytes = option_and_then (λ z. then_some (is_i64 z) z) (any_signed bytes)

-- the numbers of 128 bits
abbrev pub is_i128 : ℤ → Bool
is_i128 z = int_le (neg_ℤ (pos (2 ^ 127))) z && int_lt z (pos (2 ^ 127))

-- A value column's value, as a row's field gives it: a signed number, of 128 bits in a sum column and of 64 bits in another.
abbrev pub amount_of : Agg → List ℕ → Option ℤ
amount_of agg.Sum bytes = option_and_then (λ z. then_some (is_i128 z) z) (any_signed bytes)
amount_of agg.Min bytes = signed_of bytes
amount_of agg.Max bytes = signed_of bytes
amount_of agg.Replace bytes = signed_of bytes

-- A key column's value, as a field or a literal gives it.
abbrev pub key_value_of : KeyType → List ℕ → Option KeyValue
key_value_of kind.Int bytes = option_map value.Int (signed_of bytes)
key_value_of kind.Text bytes = then_some (is_key_text bytes) (value.Text bytes)
