-- The order of keys and of their bytes.
use Rattle.std.specs.Prelude.{ℕ, List, ◌++◌, take, replicate}
use Rattle.std.specs.Ordering.{nat_cmp, int_cmp}
use Rattle.std.specs.declared.cmp.Ordering.{Ordering}
use Rattle.std.specs.declared.cmp.Ordering.TheVariants.{Less, Greater}
use Rattle.std.specs.Cmp.Lexicographic.{slice_cmp}
use Rattle.mesa_key.specs.declared.KeyValue.{KeyValue}
use Rattle.mesa_key.specs.declared.KeyValue.TheVariants.{Int, Text}

-- Bytes are compared as unsigned numbers, one after the other, a proper prefix first.
abbrev pub byte_cmp : List ℕ → List ℕ → Ordering
byte_cmp = slice_cmp nat_cmp

-- Ints are compared by number and texts by bytes. A column has values of one type, so how an int compares with a text decides nothing.
abbrev pub value_cmp : KeyValue → KeyValue → Ordering
value_cmp (Int a) (Int b) = int_cmp a b
value_cmp (Text a) (Text b) = byte_cmp a b
value_cmp (Int a) (Text b) = Less
value_cmp (Text a) (Int b) = Greater

-- Keys are compared column by column.
abbrev pub key_cmp : List KeyValue → List KeyValue → Ordering
key_cmp = slice_cmp value_cmp

-- The short key of a key's bytes is the first 16 of them, filled with zeros.
abbrev pub short_key : List ℕ → List ℕ
short_key bytes = take 16 (bytes ++ replicate 16 0)
