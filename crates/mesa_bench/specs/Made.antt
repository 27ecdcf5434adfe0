-- The rows that are measured.
use Rattle.std.specs.Prelude.{◌≡◌, ℕ, zero, suc, ◌/◌, ◌%◌, pos, List, [], ◌∷◌, ◌++◌}
use Rattle.mesa_value.specs.declared.Agg.TheVariants.{Sum, Max}
use Rattle.mesa_key.specs.declared.KeyType.TheVariants as kind
use Rattle.mesa_key.specs.declared.KeyValue.{KeyValue}
use Rattle.mesa_key.specs.declared.KeyValue.TheVariants.{Int}
use Rattle.mesa_key.specs.Spelling.{key_spelling}
use Rattle.mesa_open_files.specs.mesa_columns.declared.rows.Row.{Row}
use Rattle.mesa_open_files.specs.mesa_columns.Columns.{Columns, kinds_of, aggs_of}

-- The columns are two ints, a sum and a maximum.
pub record HasColumns (s : Columns) : Type 0 where
  pub kinds : kinds_of s ≡ kind.Int ∷ kind.Int ∷ []
  pub aggs : aggs_of s ≡ Sum ∷ Max ∷ []

-- The key of the i-th row: each day has a hundred items.
abbrev pub key_at : ℕ → List KeyValue
key_at i = Int (pos (i / 100)) ∷ Int (pos (i % 100)) ∷ []

abbrev pub row_at : ℕ → Row
row_at i = record { key = key_spelling (key_at i); values = pos (i % 1000) ∷ pos (i % 997) ∷ [] }

-- The first n rows.
unfoldable pub rows_below : ℕ → List Row
rows_below zero = []
rows_below (suc n) = rows_below n ++ row_at n ∷ []
