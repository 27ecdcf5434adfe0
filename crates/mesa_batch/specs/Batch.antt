-- A load's rows as a batch, or its first refusal.
use Rattle.std.specs.Prelude.{ℕ, ◌+◌, ℤ, List, [], ◌∷◌, ◌++◌, map, filter, length, drop, slice_index_or, Bool, ◌&&◌, ◌==◌, Option, Some, None, Result, Ok, Err, position}
use Rattle.std.specs.Option.{ok_or}
use Rattle.mesa_list.specs.Bytes.{same_bytes}
use Rattle.mesa_list.specs.Checks.{◌>>=◌, ◌>>◌, refused_as}
use Rattle.mesa_schema.specs.mesa_value.declared.Agg.{Agg}
use Rattle.mesa_schema.specs.mesa_key.declared.KeyType.{KeyType}
use Rattle.mesa_schema.specs.mesa_key.declared.KeyValue.{KeyValue}
use Rattle.mesa_schema.specs.mesa_key.Spelling.{key_spelling}
use Rattle.mesa_schema.specs.mesa_columns.declared.rows.Row.{Row}
use Rattle.mesa_schema.specs.mesa_columns.Columns.{Columns, kinds_of, aggs_of, place_of}
use Rattle.mesa_schema.specs.mesa_columns.Numbers.{amount_of, key_value_of}
use Rattle.mesa_batch.specs.declared.words.RowWords.{RowWords}
use Rattle.mesa_batch.specs.declared.words.BatchError.{BatchError}
use Rattle.mesa_batch.specs.declared.words.BatchError.TheVariants.{NoTable, BadRow, DuplicateKey}

-- a table's name and its present columns
pub record Named : Type 0 where
  pub name : List ℕ
  pub columns : Columns

-- a row of a table, by the table's number
pub record Placed : Type 0 where
  pub table : ℕ
  pub row : Row

-- the key of the fields from column c on, or the number of the first bad column
abbrev pub key_from : ℕ → List KeyType → List (List ℕ) → Result (List KeyValue) ℕ
key_from c [] fields = Ok []
key_from c (kind ∷ kinds) [] = Err c
key_from c (kind ∷ kinds) (field ∷ fields) = do
  value ← ok_or (key_value_of kind field) c
  values ← key_from (c + 1) kinds fields
  Ok (value ∷ values)

-- the same for value columns, with no field left over
abbrev pub values_from : ℕ → List Agg → List (List ℕ) → Result (List ℤ) ℕ
values_from c [] [] = Ok []
values_from c [] (field ∷ fields) = Err c
values_from c (agg ∷ aggs) [] = Err c
values_from c (agg ∷ aggs) (field ∷ fields) = do
  value ← ok_or (amount_of agg field) c
  values ← values_from (c + 1) aggs fields
  Ok (value ∷ values)

-- A row of the columns, or the number of its first bad column; where fields are left over, that of the columns plus 1.
abbrev pub row_of : Columns → List (List ℕ) → Result Row ℕ
row_of s fields = do
  key ← key_from 1 (kinds_of s) fields
  values ← values_from (length s.keys + 1) (aggs_of s) (drop (length s.keys) fields)
  Ok (record { key = key_spelling key; values = values })

-- whether a row of a table has this key
abbrev pub is_at : ℕ → List ℕ → Placed → Bool
is_at table key placed = (placed.table == table) && same_bytes key placed.row.key

-- refused where an earlier row has the table and the key
abbrev pub refuse_twice : Option ℕ → ℕ → Result (Unit {0}) BatchError
refuse_twice None second = Ok tt
refuse_twice (Some place) second = Err (DuplicateKey (place + 1) second)

-- the columns of the table of a number
abbrev pub columns_at : ℕ → List Named → Columns
columns_at t tables = slice_index_or (map (λ (n : Named). n.columns) tables) t (record { keys = []; values = [] })

-- What the next row gives, after the rows before it: its table is looked up, then its columns are read, then its key is compared.
abbrev pub placed_of : List Named → List Placed → RowWords → Result Placed BatchError
placed_of tables before words =
    let number = length before + 1 in
    do
      table ← ok_or (place_of words.table (map (λ (n : Named). n.name) tables)) (NoTable number)
      row ← refused_as (BadRow number) (row_of (columns_at table tables) words.fields)
      refuse_twice (position (is_at table row.key) before) number
      Ok (record { table = table; row = row })

-- the rows so far and these
abbrev pub batch_from : List Named → List Placed → List RowWords → Result (List Placed) BatchError
batch_from tables before [] = Ok before
batch_from tables before (words ∷ rest) = placed_of tables before words >>= (λ placed. batch_from tables (before ++ placed ∷ []) rest)

-- BatchOf: the rows of a load, in order, or the first refusal.
abbrev pub batch_of : List Named → List RowWords → Result (List Placed) BatchError
batch_of tables rows = batch_from tables [] rows

-- the rows of one table, in the load's order
abbrev pub rows_for : ℕ → List Placed → List Row
rows_for table batch = map (λ (p : Placed). p.row) (filter (λ (p : Placed). p.table == table) batch)
