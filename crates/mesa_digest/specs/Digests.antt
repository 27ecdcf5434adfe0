-- Digests of a relation's rows.
use Rattle.std.specs.Prelude.{ℕ, ℤ, ◌-◌, ◌^◌, ◌%◌, List, [], ◌∷◌, ◌++◌, length, take, flat_map, if◌then◌else◌}
use Rattle.std.specs.Int.{w128, cast_unsigned, from_be_bytes, to_be_bytes}
use Rattle.std.specs.List.{sum_by}
use Rattle.std.specs.Ordering.{is_le, nat_cmp, ordering_then}
use Rattle.std.specs.declared.cmp.Ordering.{Ordering}
use Rattle.sha2.specs.Sha256.{sha256}
use Rattle.mesa_key.specs.Order.{byte_cmp}
use Rattle.mesa_key.specs.Spelling.{columns_of}
use Rattle.mesa_key.specs.declared.KeyType.{KeyType}
use Rattle.mesa_key.specs.declared.KeyType.TheVariants.{Int, Text}
use Rattle.mesa_columns.specs.Columns.{Columns, kinds_of}
use Rattle.mesa_columns.specs.declared.columns.KeyColumn.{KeyColumn}
use Rattle.mesa_columns.specs.declared.columns.ValueColumn.{ValueColumn}
use Rattle.mesa_columns.specs.declared.rows.Row.{Row}
use Rattle.mesa_digest.specs.declared.digesting.DigestPair.{DigestPair}

-- a value is 16 bytes in two's complement, the highest first
unfoldable pub amount_bytes : ℤ → List ℕ
amount_bytes value = to_be_bytes w128 (cast_unsigned w128 value)

-- a row's key bytes, and its values behind them
abbrev pub row_bytes : Row → List ℕ
row_bytes row = row.key ++ flat_map amount_bytes row.values

-- The ordered digest of rows: that of all of them, one after the other.
abbrev pub ordered : List Row → List ℕ
ordered rows = sha256 (flat_map row_bytes rows)

-- ---- rows spelled by the names of their columns

-- What a column goes by: its name, and whether it is a value's (1) or a key's (0).
pub record Label : Type 0 where
  pub name : List ℕ
  pub rank : ℕ

abbrev pub key_label : KeyColumn → Label
key_label k = record { name = k.name; rank = 0 }

abbrev pub value_label : ValueColumn → Label
value_label v = record { name = v.name; rank = 1 }

-- A column of a row: what it goes by, and its bytes.
pub record Cell : Type 0 where
  pub label : Label
  pub bytes : List ℕ

-- an int key's eight bytes; a text's length, and the text without the zero behind it
abbrev pub key_bytes : KeyType → List ℕ → List ℕ
key_bytes Int bytes = bytes
key_bytes Text bytes = (length bytes - 1) ∷ take (length bytes - 1) bytes

abbrev pub key_cells : List KeyColumn → List (List ℕ) → List Cell
key_cells [] columns = []
key_cells (k ∷ ks) [] = []
key_cells (k ∷ ks) (bytes ∷ columns) = record { label = key_label k; bytes = key_bytes k.kind bytes } ∷ key_cells ks columns

abbrev pub value_cells : List ValueColumn → List ℤ → List Cell
value_cells [] values = []
value_cells (v ∷ vs) [] = []
value_cells (v ∷ vs) (value ∷ values) = record { label = value_label v; bytes = amount_bytes value } ∷ value_cells vs values

-- a row's columns as they stand
abbrev pub cells : Columns → Row → List Cell
cells s row = key_cells s.keys (columns_of (kinds_of s) row.key) ++ value_cells s.values row.values

-- Columns come in the byte order of their names, and of one name the key column first.
abbrev pub label_cmp : Label → Label → Ordering
label_cmp a b = ordering_then (byte_cmp a.name b.name) (nat_cmp a.rank b.rank)

-- No two columns of a schema go by one label, so how their bytes compare decides nothing.
abbrev pub cell_cmp : Cell → Cell → Ordering
cell_cmp a b = ordering_then (label_cmp a.label b.label) (byte_cmp a.bytes b.bytes)

-- a column among others in their order
unfoldable pub put_cell : Cell → List Cell → List Cell
put_cell c [] = c ∷ []
put_cell c (x ∷ xs) = if is_le (cell_cmp c x) then c ∷ x ∷ xs else x ∷ put_cell c xs

abbrev pub in_order : List Cell → List Cell
in_order [] = []
in_order (c ∷ cs) = put_cell c (in_order cs)

-- a column as it is hashed: its name's length, its name and its bytes
abbrev pub cell_bytes : Cell → List ℕ
cell_bytes c = length c.label.name ∷ (c.label.name ++ c.bytes)

-- The named spelling of a row: its columns in the order of their names.
abbrev pub named : Columns → Row → List ℕ
named s row = flat_map cell_bytes (in_order (cells s row))

-- the first 16 bytes of a spelling's digest, as a number
unfoldable pub mark_of : List ℕ → ℕ
mark_of bytes = from_be_bytes w128 (take 16 (sha256 bytes))

abbrev pub mark : Columns → Row → ℕ
mark s row = mark_of (named s row)

-- The set digest of rows: the sum of their marks, modulo 2^128.
abbrev pub set : Columns → List Row → ℕ
set s rows = sum_by (mark s) rows % 2 ^ 128

-- Digests: how many rows there are, their ordered digest, and their set digest.
abbrev pub digests_of : Columns → List Row → DigestPair
digests_of s rows = record { rows = length rows; ordered = ordered rows; set = set s rows }
