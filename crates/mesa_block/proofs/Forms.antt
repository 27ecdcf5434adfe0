-- Rows that can stand in a block, by the test of their keys' bytes.
use Rattle.std.proofs.Common.{◌≡◌, List, [], ◌∷◌, length, subst}
use Rattle.std.specs.Prelude.{IsTrue}
use Rattle.std.specs.List.{AllByRecursion}
use Rattle.mesa_columns.specs.mesa_key.declared.KeyType.{KeyType}
use Rattle.mesa_columns.specs.mesa_key.declared.KeyValue.{KeyValue}
use Rattle.mesa_columns.specs.mesa_key.Spelling.{IsKey, is_spelling, key_of, key_spelling}
use Rattle.mesa_columns.specs.declared.rows.Row.{Row}
use Rattle.mesa_columns.specs.Columns.{kinds_of}
use Rattle.mesa_block.specs.Layout.{FitCells, Layout, widths_of}
use Rattle.mesa_block.specs.Rows.{IsRow}

-- what the base says of keys: the spelling of a key passes for one
abbrev pub Passes : Type 0
Passes = (types : List KeyType) (key : List KeyValue) → IsKey types key → IsTrue (is_spelling types (key_spelling key))

pub record IsRead (s : Layout) (row : Row) : Type 0 where
  pub key : IsTrue (is_spelling (kinds_of s.columns) row.key)
  pub count : length row.values ≡ length s.columns.values
  pub values : FitCells (widths_of s) row.values

pub is_read : Passes → (s : Layout) (row : Row) → IsRow s row → IsRead s row
is_read passes s row h = record {
  key = subst (λ key. IsTrue (is_spelling (kinds_of s.columns) key)) h.form.spelled (passes (kinds_of s.columns) (key_of (kinds_of s.columns) row.key) h.form.key);
  count = h.form.values;
  values = h.cells;
}

pub all_read : Passes → (s : Layout) (rows : List Row) → AllByRecursion (IsRow s) rows → AllByRecursion (IsRead s) rows
all_read passes s [] all = tt
all_read passes s (row ∷ rows) all = (is_read passes s row all.0, all_read passes s rows all.1)
