-- Reading a block: what is refused, and in which order.
use Rattle.std.specs.Prelude.{◌≡◌, ◌≢◌, ℕ, ◌+◌, ℤ, List, [], ◌∷◌, ◌++◌, length, map, take, drop, replicate, get_or, Bool, true, false, not, ◌==◌, nat_lt, if◌then◌else◌, Result, Ok, Err, Option, Some, None, position, ⊤}
use Rattle.std.specs.Int.{w16, from_be_bytes}
use Rattle.std.specs.List.{range_with_len}
use Rattle.std.specs.declared.cmp.Ordering.{Ordering}
use Rattle.std.specs.declared.cmp.Ordering.TheVariants.{Less, Equal, Greater}
use Rattle.mesa_list.specs.Checks.{◌>>=◌, ◌>>◌, refuse_if, refuse_unless}
use Rattle.mesa_columns.specs.mesa_key.declared.KeyType.{KeyType}
use Rattle.mesa_columns.specs.mesa_key.declared.KeyType.TheVariants as kind
use Rattle.mesa_columns.specs.mesa_key.Spelling.{is_key_text}
use Rattle.mesa_columns.specs.mesa_key.Order.{byte_cmp}
use Rattle.mesa_columns.specs.declared.rows.Row.{Row}
use Rattle.mesa_columns.specs.Columns.{kinds_of}
use Rattle.mesa_block.specs.declared.error.BlockError.{BlockError}
use Rattle.mesa_block.specs.declared.error.BlockError.TheVariants as fault
use Rattle.mesa_block.specs.declared.layout.Width.{Width}
use Rattle.mesa_block.specs.Layout.{Layout, number, size_of, widths_of}
use Rattle.mesa_block.specs.Rows.{most_rows, most_bytes}

-- What a function returned, seen by view, is what reading gives, unless memory ran out.
abbrev pub Gives : {X Y : Type 0} → (X → Y) → Result X BlockError → Result Y BlockError → Type 0
Gives view (Ok x) read = read ≡ Ok (view x)
Gives view (Err e) read = e ≢ fault.Memory → read ≡ Err e

-- what was read before, and what is still read
abbrev pub with_front : {A : Type 0} → List A → Result (List A × List ℕ) BlockError → Result (List A × List ℕ) BlockError
with_front front read = read >>= λ x. Ok (front ++ x.0, x.1)

-- a piece of n bytes
abbrev pub piece_at : ℕ → List ℕ → Result (List ℕ × List ℕ) BlockError
piece_at n bytes = if nat_lt (length bytes) n then Err fault.Truncated else Ok (take n bytes, drop n bytes)

-- one after the other, each behind the bytes of those before
unfoldable pub many : {I A : Type 0} → (I → List ℕ → Result (A × List ℕ) BlockError) → List I → List ℕ → Result (List A × List ℕ) BlockError
many read [] bytes = Ok ([], bytes)
many read (i ∷ is) bytes = do
  first ← read i bytes
  others ← many read is first.1
  Ok (first.0 ∷ others.0, others.1)

-- the first bytes cut into pieces of these lengths, and the bytes after them
abbrev pub pieces_at : List ℕ → List ℕ → Result (List (List ℕ) × List ℕ) BlockError
pieces_at lengths bytes = many piece_at lengths bytes

-- a column of r rows
unfoldable pub column_at : KeyType → ℕ → List ℕ → Result (List (List ℕ) × List ℕ) BlockError
column_at kind.Int r bytes = pieces_at (replicate r 8) bytes
column_at kind.Text r bytes = do
  lengths ← piece_at r bytes
  pieces_at lengths.0 lengths.1

-- columns of r rows
abbrev pub columns_at : List KeyType → ℕ → List ℕ → Result (List (List (List ℕ)) × List ℕ) BlockError
columns_at kinds r bytes = many (λ kind. column_at kind r) kinds bytes

-- a value column of r rows
abbrev pub cells_at : Width → ℕ → List ℕ → Result (List (List ℕ) × List ℕ) BlockError
cells_at w r bytes = pieces_at (replicate r (size_of w)) bytes

-- value columns of r rows
abbrev pub value_columns_at : List Width → ℕ → List ℕ → Result (List (List (List ℕ)) × List ℕ) BlockError
value_columns_at ws r bytes = many (λ w. cells_at w r) ws bytes

-- the first bad text, column by column
abbrev pub or_else : Option ℕ → Option ℕ → Option ℕ
or_else (Some i) other = Some i
or_else None other = other

abbrev pub bad_column : KeyType → List (List ℕ) → Option ℕ
bad_column kind.Int column = None
bad_column kind.Text column = position (λ cell. not (is_key_text cell)) column

unfoldable pub bad_text : List KeyType → List (List (List ℕ)) → Option ℕ
bad_text [] columns = None
bad_text (kind ∷ kinds) [] = None
bad_text (kind ∷ kinds) (column ∷ columns) = or_else (bad_column kind column) (bad_text kinds columns)

-- a cell as a key has it
abbrev pub sealed : KeyType → List ℕ → List ℕ
sealed kind.Int cell = cell
sealed kind.Text cell = cell ++ 0 ∷ []

-- the key of the row i
unfoldable pub key_at : List KeyType → List (List (List ℕ)) → ℕ → List ℕ
key_at [] columns i = []
key_at (kind ∷ kinds) [] i = []
key_at (kind ∷ kinds) (column ∷ columns) i = sealed kind (get_or column i []) ++ key_at kinds columns i

-- the values of the row i
abbrev pub values_at : List Width → List (List (List ℕ)) → ℕ → List ℤ
values_at [] columns i = []
values_at (w ∷ ws) [] i = []
values_at (w ∷ ws) (column ∷ columns) i = number w (get_or column i []) ∷ values_at ws columns i

abbrev pub row_at : List KeyType → List Width → List (List (List ℕ)) → List (List (List ℕ)) → ℕ → Row
row_at kinds widths keys values i = record { key = key_at kinds keys i; values = values_at widths values i }

abbrev pub rows_of : List KeyType → List Width → List (List (List ℕ)) → List (List (List ℕ)) → ℕ → List Row
rows_of kinds widths keys values r = map (row_at kinds widths keys values) (range_with_len 0 r)

abbrev pub is_less : Ordering → Bool
is_less Less = true
is_less Equal = false
is_less Greater = false

-- the place of the first row whose key isn't greater than the one before; the first of these rows has the place i
unfoldable pub out_of_order : List Row → ℕ → Option ℕ
out_of_order [] i = None
out_of_order (a ∷ []) i = None
out_of_order (a ∷ b ∷ rows) i = if is_less (byte_cmp a.key b.key) then out_of_order (b ∷ rows) (i + 1) else Some (i + 1)

abbrev pub refused_at : (ℕ → BlockError) → Option ℕ → Result ⊤ BlockError
refused_at f None = Ok tt
refused_at f (Some i) = Err (f i)

-- the rows of columns that were read, with these bytes left
unfoldable pub checked : List KeyType → List Width → List (List (List ℕ)) → List (List (List ℕ)) → ℕ → List ℕ → Result (List Row) BlockError
checked kinds widths keys values r left = do
  refused_at fault.BadText (bad_text kinds keys)
  refused_at fault.OutOfOrder (out_of_order (rows_of kinds widths keys values r) 0)
  refuse_unless (length left == 0) fault.Trailing
  Ok (rows_of kinds widths keys values r)

-- the rows of a block's columns
unfoldable pub rows_at : Layout → ℕ → List ℕ → Result (List Row) BlockError
rows_at s r bytes = do
  keys ← columns_at (kinds_of s.columns) r bytes
  values ← value_columns_at (widths_of s) r keys.1
  checked (kinds_of s.columns) (widths_of s) keys.0 values.0 r values.1

-- the row count of a block
abbrev pub count_of : List ℕ → ℕ
count_of bytes = from_be_bytes w16 (get_or bytes 1 0 ∷ get_or bytes 2 0 ∷ [])

-- The rows of a block's bytes, or the first fault.
unfoldable pub block_at : Layout → List ℕ → Result (List Row) BlockError
block_at s bytes = do
  refuse_if (nat_lt (length bytes) 3) fault.Truncated
  refuse_unless (get_or bytes 0 0 == 0) fault.Compressed
  refuse_if (nat_lt most_rows (count_of bytes)) fault.BadCount
  refuse_if (count_of bytes == 0) fault.BadCount
  rows ← rows_at s (count_of bytes) (drop 3 bytes)
  refuse_if (nat_lt most_bytes (length bytes)) fault.Trailing
  Ok rows
