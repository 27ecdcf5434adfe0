-- Rows of a table or a view.
use Rattle.std.specs.Prelude.{◌≡◌, ℤ, List, [], ◌∷◌, length, Bool, true, ◌&&◌, ⊤}
use Rattle.std.specs.Ordering.{is_lt}
use Rattle.std.specs.List.{AllByRecursion}
use Rattle.mesa_key.specs.mesa_value.declared.Agg.{Agg}
use Rattle.mesa_key.specs.mesa_value.Agg.{IsOf}
use Rattle.mesa_key.specs.Order.{byte_cmp}
use Rattle.mesa_key.specs.Spelling.{IsKey, key_of, key_spelling}
use Rattle.mesa_columns.specs.declared.rows.Row.{Row}
use Rattle.mesa_columns.specs.Columns.{Columns, aggs_of, kinds_of}

-- column by column, the values are ones of these columns
abbrev pub AreOf : List Agg → List ℤ → Type 0
AreOf [] values = ⊤
AreOf (agg ∷ aggs) [] = ⊤
AreOf (agg ∷ aggs) (value ∷ values) = IsOf agg value × AreOf aggs values

-- A row has the form of these columns: its key spells a key of their types, and it has one value for each value column, which is one of the column.
pub record IsRowOf (s : Columns) (row : Row) : Type 0 where
  pub key : IsKey (kinds_of s) (key_of (kinds_of s) row.key)
  pub spelled : key_spelling (key_of (kinds_of s) row.key) ≡ row.key
  pub values : length row.values ≡ length s.values
  pub ranges : AreOf (aggs_of s) row.values

-- each of the rows has
abbrev pub AreRowsOf : Columns → List Row → Type 0
AreRowsOf s rows = AllByRecursion (IsRowOf s) rows

-- the keys of the rows rise strictly
abbrev pub keys_rise : List Row → Bool
keys_rise [] = true
keys_rise (row ∷ []) = true
keys_rise (row ∷ next ∷ rows) = is_lt (byte_cmp row.key next.key) && keys_rise (next ∷ rows)
