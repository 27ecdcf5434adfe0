-- The bytes of a block of rows: each list of rows that makes a block has one spelling in each format.
use Rattle.std.specs.Prelude.{ℕ, ◌+◌, ◌-◌, pos, List, [], ◌∷◌, ◌++◌, length, map, take, drop, flat_map, get_or}
use Rattle.std.specs.Int.{w16, to_be_bytes}
use Rattle.std.specs.List.{concat}
use Rattle.mesa_columns.specs.mesa_key.declared.KeyType.{KeyType}
use Rattle.mesa_columns.specs.mesa_key.declared.KeyType.TheVariants as kind
use Rattle.mesa_columns.specs.mesa_key.Spelling.{before_zero}
use Rattle.mesa_columns.specs.declared.rows.Row.{Row}
use Rattle.mesa_columns.specs.Columns.{kinds_of}
use Rattle.mesa_block.specs.declared.layout.Width.{Width}
use Rattle.mesa_block.specs.Layout.{Layout, value, widths_of}

-- The bytes of a key's first column, a text's without its zero byte.
abbrev pub front : KeyType → List ℕ → List ℕ
front kind.Int key = take 8 key
front kind.Text key = before_zero key

-- the bytes of a key's other columns
abbrev pub rest : KeyType → List ℕ → List ℕ
rest kind.Int key = drop 8 key
rest kind.Text key = drop (length (before_zero key) + 1) key

-- a column's bytes in a key, as a block has them: a text's without its zero byte
abbrev pub cell : KeyType → List ℕ → List ℕ
cell kind.Int bytes = bytes
cell kind.Text bytes = take (length bytes - 1) bytes

-- the lengths that stand before the cells of a column: those of texts
abbrev pub lengths : KeyType → List (List ℕ) → List ℕ
lengths kind.Int cells = []
lengths kind.Text cells = map length cells

-- A key column of all rows: ints one after the other; of texts first the lengths, a byte each, then the texts.
abbrev pub column : KeyType → List (List ℕ) → List ℕ
column kind.Int cells = concat cells
column kind.Text cells = map length cells ++ concat cells

-- The key columns of all rows, one after the other.
abbrev pub columns : List KeyType → List (List ℕ) → List ℕ
columns [] keys = []
columns (kind ∷ kinds) keys = column kind (map (front kind) keys) ++ columns kinds (map (rest kind) keys)

abbrev pub key_of : Row → List ℕ
key_of row = row.key

-- A value column of all rows is their values one after the other.
abbrev pub value_column : Width → List Row → ℕ → List ℕ
value_column w rows j = flat_map (λ (row : Row). value w (get_or row.values j (pos 0))) rows

-- The value columns of all rows from a place on, one after the other.
abbrev pub value_columns : List Width → List Row → ℕ → List ℕ
value_columns [] rows j = []
value_columns (w ∷ ws) rows j = value_column w rows j ++ value_columns ws rows (j + 1)

-- A block is the flag 0, the row count in two bytes, the key columns, the value columns.
unfoldable pub block : Layout → List Row → List ℕ
block s rows = 0 ∷ (to_be_bytes w16 (length rows) ++ (columns (kinds_of s.columns) (map key_of rows) ++ value_columns (widths_of s) rows 0))
