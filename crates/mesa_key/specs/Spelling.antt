-- The bytes of a key: each key of given types has one spelling.
use Rattle.std.specs.Prelude.{ℕ, ◌+◌, ◌-◌, ◌^◌, ◌<◌, ℤ, pos, ◌+ℤ◌, ◌-ℤ◌, nat_abs, FitsSigned, IsTrue, List, [], ◌∷◌, ◌++◌, take, drop, length, slice_index, Bool, ◌==◌, ◌&&◌, if◌then◌else◌, flat_map}
use Rattle.std.specs.Int.{w64, to_be_bytes, from_be_bytes}
pub use Rattle.mesa_key.specs.Text.{is_key_text}
use Rattle.mesa_key.specs.declared.KeyValue.{KeyValue}
use Rattle.mesa_key.specs.declared.KeyValue.TheVariants as value
use Rattle.mesa_key.specs.declared.KeyType.{KeyType}
use Rattle.mesa_key.specs.declared.KeyType.TheVariants as kind

-- An int is eight bytes, the highest first: the number plus 2^63, which is its two's complement with the sign bit flipped.
abbrev pub int_spelling : ℤ → List ℕ
int_spelling z = to_be_bytes w64 (nat_abs (z +ℤ pos (2 ^ 63)))

-- A text is its bytes and a zero byte.
abbrev pub value_spelling : KeyValue → List ℕ
value_spelling (value.Int z) = int_spelling z
value_spelling (value.Text bytes) = bytes ++ 0 ∷ []

-- A key's bytes are its columns' in order.
abbrev pub key_spelling : List KeyValue → List ℕ
key_spelling key = flat_map value_spelling key

-- A value is of a key column's type: a number of 64 bits, or a key text.
abbrev pub IsValue : KeyType → KeyValue → Type 0
IsValue kind.Int (value.Int z) = FitsSigned w64 z
IsValue kind.Int (value.Text bytes) = ⊥
IsValue kind.Text (value.Int z) = ⊥
IsValue kind.Text (value.Text bytes) = IsTrue (is_key_text bytes)

-- A key of these types has one value of each of them, in their order.
abbrev pub IsKey : List KeyType → List KeyValue → Type 0
IsKey [] [] = Unit {0}
IsKey [] (value ∷ key) = ⊥
IsKey (kind ∷ kinds) [] = ⊥
IsKey (kind ∷ kinds) (value ∷ key) = IsValue kind value × IsKey kinds key

-- the bytes before the first zero
unfoldable pub before_zero : List ℕ → List ℕ
before_zero [] = []
before_zero (b ∷ bytes) = if b == 0 then [] else b ∷ before_zero bytes

-- The first column takes this many bytes: eight where it is an int, and a text's bytes with the zero behind them.
abbrev pub column_length : KeyType → List ℕ → ℕ
column_length kind.Int bytes = 8
column_length kind.Text bytes = length (before_zero bytes) + 1

-- A column's bytes spell this value.
abbrev pub column_value : KeyType → List ℕ → KeyValue
column_value kind.Int bytes = value.Int (pos (from_be_bytes w64 bytes) -ℤ pos (2 ^ 63))
column_value kind.Text bytes = value.Text (take (length bytes - 1) bytes)

-- The bytes of a key of these types, column by column.
abbrev pub columns_of : List KeyType → List ℕ → List (List ℕ)
columns_of [] bytes = []
columns_of (kind ∷ kinds) bytes = take (column_length kind bytes) bytes ∷ columns_of kinds (drop (column_length kind bytes) bytes)

-- The key of these types that the bytes begin with.
abbrev pub key_of : List KeyType → List ℕ → List KeyValue
key_of [] bytes = []
key_of (kind ∷ kinds) bytes = column_value kind (take (column_length kind bytes) bytes) ∷ key_of kinds (drop (column_length kind bytes) bytes)

-- One column's bytes are a spelling of its type: eight bytes, or a key text and one zero byte at its end.
abbrev pub is_column : KeyType → List ℕ → Bool
is_column kind.Int bytes = length bytes == 8
is_column kind.Text bytes = is_key_text (take (length bytes - 1) bytes) && (length (before_zero bytes) + 1 == length bytes)

-- The bytes spell a key of these types, with nothing left over.
abbrev pub is_spelling : List KeyType → List ℕ → Bool
is_spelling [] bytes = length bytes == 0
is_spelling (kind ∷ kinds) bytes = is_column kind (take (column_length kind bytes) bytes) && is_spelling kinds (drop (column_length kind bytes) bytes)

-- Each is a byte.
abbrev pub AreBytes : List ℕ → Type 0
AreBytes bytes = (i : ℕ) → slice_index bytes i < 2 ^ 8
