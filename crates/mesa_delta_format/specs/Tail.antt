-- The bytes of a file behind its blocks.
use Rattle.std.specs.Prelude.{ℕ, ◌+◌, List, [], ◌∷◌, ◌++◌, length, map}
use Rattle.std.specs.Int.{w32, w64, to_be_bytes}
use Rattle.sha2.specs.Sha256.{sha256}
use Rattle.mesa_block.specs.mesa_key.declared.Format.{Format}
use Rattle.mesa_block.specs.mesa_key.declared.Format.TheVariants.{One, Two}
use Rattle.mesa_block.specs.mesa_key.Order.{short_key}
use Rattle.mesa_columns.specs.declared.rows.Row.{Row}
use Rattle.mesa_columns.specs.Codes.{agg_byte, kind_byte}
use Rattle.mesa_columns.specs.Columns.{kinds_of, aggs_of}
use Rattle.mesa_block.specs.Layout.{Layout}
use Rattle.mesa_block.specs.Spelling.{block}

-- the key of the first of the rows
abbrev pub first_key : List Row → List ℕ
first_key [] = []
first_key (row ∷ rows) = row.key

-- A block's entry is the short key of its first key, its offset, its length and the SHA-256 of its bytes.
abbrev pub entry : List ℕ → ℕ → List ℕ → List ℕ
entry short offset bytes = short ++ (to_be_bytes w64 offset ++ (to_be_bytes w32 (length bytes) ++ sha256 bytes))

-- The entries of blocks that stand one after the other from an offset on.
abbrev pub entries : Layout → ℕ → List (List Row) → List ℕ
entries s offset [] = []
entries s offset (rows ∷ blocks) = entry (short_key (first_key rows)) offset (block s rows) ++ entries s (offset + length (block s rows)) blocks

-- a format's number as a digit
abbrev pub format_digit : Format → ℕ
format_digit One = 0x31
format_digit Two = 0x32

-- The last eight bytes of a file are `MESADLT1` or `MESADLT2`.
abbrev pub magic : Format → List ℕ
magic format = 0x4d ∷ 0x45 ∷ 0x53 ∷ 0x41 ∷ 0x44 ∷ 0x4c ∷ 0x54 ∷ format_digit format ∷ []

-- A tail ends with a byte for each column, the counts of rows, blocks, key columns and value columns, and the magic.
abbrev pub foot : Layout → ℕ → ℕ → List ℕ
foot s rows blocks = map kind_byte (kinds_of s.columns) ++ (map agg_byte (aggs_of s.columns) ++ (to_be_bytes w64 rows ++ (to_be_bytes w32 blocks ++ (length s.columns.keys ∷ length s.columns.values ∷ magic s.format))))

-- The tail of a file of these blocks and as many rows.
abbrev pub tail_of : Layout → ℕ → List (List Row) → List ℕ
tail_of s rows blocks = entries s 0 blocks ++ foot s rows (length blocks)
