-- Where a search may begin.
use Rattle.std.specs.Prelude.{◌≡◌, ℕ, ◌+◌, ◌<◌, ◌≤◌, List, [], ◌∷◌, ◌++◌, length, map, get_or, IsTrue, true}
use Rattle.std.specs.List.{AllByRecursion}
use Rattle.std.specs.Ordering.{is_le}
use Rattle.mesa_block.specs.mesa_key.Order.{byte_cmp, short_key}
use Rattle.mesa_columns.specs.declared.rows.Row.{Row}
use Rattle.mesa_block.specs.Layout.{Layout}
use Rattle.mesa_fold.specs.Folded.{rows_of}
use Rattle.mesa_columns.specs.Schema.{is_schema}
use Rattle.mesa_block.specs.Rows.{IsRow, Rise}
use Rattle.mesa_block.specs.Spelling.{key_of}
use Rattle.mesa_delta_format.specs.Seeking.{seek_in}
use Rattle.mesa_delta_format.specs.Spread.{blocks_of}
use Rattle.mesa_delta_format.specs.Summary.{last_key}
use Rattle.mesa_delta_format.specs.Tail.{first_key}

-- the short key of a block's first key
abbrev pub first_short : List Row → List ℕ
first_short rows = short_key (first_key rows)

abbrev pub IsSome : List Row → Type 0
IsSome rows = 0 < length rows

-- Where the keys of blocks rise, a search for a key begins at or before the first block that holds a key at least this one: no block that holds one lies before it.
abbrev pub BeginsBefore : Type 0
BeginsBefore = (key : List ℕ) (before : List (List Row)) (front : List Row) (row : Row) (back : List Row) (behind : List (List Row))
    → Rise (map key_of (rows_of (before ++ (front ++ row ∷ back) ∷ behind))) → AllByRecursion IsSome behind → is_le (byte_cmp key row.key) ≡ true
    → seek_in (short_key key) (map first_short (before ++ (front ++ row ∷ back) ∷ behind)) ≤ length before

-- The short keys between which the blocks of a file lie: those of the blocks' first keys, and behind them that of the last key of all.
abbrev pub bounds_of : Layout → List Row → List (List ℕ)
bounds_of s rows = map first_short (blocks_of s rows) ++ short_key (last_key rows) ∷ []

-- A row's short key lies between two others, and may be one of them.
abbrev pub LiesBetween : List ℕ → List ℕ → Row → Type 0
LiesBetween low high row = (is_le (byte_cmp low (short_key row.key)) ≡ true) × (is_le (byte_cmp (short_key row.key) high) ≡ true)

-- In a file the short key of each row of a block lies between that of the block's first key and that of the next block's, or of the last key of all.
abbrev pub KeysBetween : Type 0
KeysBetween = (s : Layout) (rows : List Row) (i : ℕ) → IsTrue (is_schema s.columns) → 0 < length rows → AllByRecursion (IsRow s) rows → Rise (map key_of rows)
    → AllByRecursion (LiesBetween (get_or (bounds_of s rows) i []) (get_or (bounds_of s rows) (i + 1) [])) (get_or (blocks_of s rows) i [])
