-- Rows of a load, gathered one after another, and then by table and key.
use Rattle.std.specs.Prelude.{◌≡◌, ◌≢◌, ℕ, ◌+◌, List, [], ◌∷◌, ◌++◌, length, map, position, slice_index_or, Result, Ok}
use Rattle.std.specs.Option.{ok_or}
use Rattle.mesa_list.specs.Checks.{◌>>=◌, ◌>>◌, refused_as}
use Rattle.mesa_schema.specs.mesa_columns.declared.rows.Row.{Row}
use Rattle.mesa_schema.specs.mesa_columns.Columns.{Columns, place_of}
use Rattle.mesa_batch.specs.declared.words.RowWords.{RowWords}
use Rattle.mesa_batch.specs.declared.words.BatchError.{BatchError}
use Rattle.mesa_batch.specs.declared.words.BatchError.TheVariants.{NoTable, BadRow}
use Rattle.mesa_batch.specs.Batch.{Named, Placed, columns_at, is_at, refuse_twice, row_of}
use Rattle.mesa_batch.specs.Glance.{Sight, columns_in}

-- The rows gathered so far, in the load's order, and the present columns of the tables that they were read by, which aren't there before the first row.
pub record Gathered : Type 0 where
  pub columns : List Columns
  pub rows : List Placed

-- a row by its table's columns, before its key is compared with others
abbrev pub read_of : List Named → ℕ → RowWords → Result Placed BatchError
read_of tables number words = do
  table ← ok_or (place_of words.table (map (λ (n : Named). n.name) tables)) (NoTable number)
  row ← refused_as (BadRow number) (row_of (columns_at table tables) words.fields)
  Ok (record { table = table; row = row })

-- the rows with one more, or why its words make none; its key isn't compared with theirs
abbrev pub with_row : List Named → List Placed → RowWords → Result (List Placed) BatchError
with_row tables before words = read_of tables (length before + 1) words >>= (λ placed. Ok (before ++ placed ∷ []))

-- Rows behind others: none of them has the table and the key of an earlier row, or the first that has is refused.
abbrev pub once_behind : List Placed → List Placed → Result (Unit {0}) BatchError
once_behind before [] = Ok tt
once_behind before (placed ∷ rest) = refuse_twice (position (is_at placed.table placed.row.key) before) (length before + 1) >> once_behind (before ++ placed ∷ []) rest

-- No row has the table and the key of an earlier one, or the first that has is refused.
abbrev pub each_once : List Placed → Result (Unit {0}) BatchError
each_once rows = once_behind [] rows

-- The rows so far, if there are any, were read by the tables of this glance.
abbrev pub IsReadBy : Sight → Gathered → Type 0
IsReadBy sight gathered = gathered.columns ≢ [] → gathered.columns ≡ columns_in sight

-- A batch's rows by their table's number, each table's in the order of their keys, the columns of the tables, and how many rows there are over all tables.
pub record Batched : Type 0 where
  pub columns : List Columns
  pub tables : List (List Row)
  pub count : ℕ

-- the rows of the table of a number
abbrev pub rows_at : ℕ → Batched → List Row
rows_at table batch = slice_index_or batch.tables table []

-- the columns of the table of a number
abbrev pub columns_for : ℕ → Batched → Columns
columns_for table batch = slice_index_or batch.columns table (record { keys = []; values = [] })
