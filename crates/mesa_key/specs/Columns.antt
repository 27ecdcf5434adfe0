-- The columns of encoded keys, one after the other.
use Rattle.std.specs.Prelude.{ℕ, List, [], ◌∷◌, length, take, drop, Bool, false, nat_le}
use Rattle.mesa_key.specs.declared.KeyType.{KeyType}
use Rattle.mesa_key.specs.declared.KeyValue.{KeyValue}
use Rattle.mesa_key.specs.declared.KeyValue.TheVariants as value
use Rattle.mesa_key.specs.declared.lent.ColumnValue.{ColumnValue}
use Rattle.mesa_key.specs.declared.lent.ColumnValue.TheVariants.{Int, Text}
use Rattle.mesa_key.specs.Spelling.{column_length, column_value}

-- The columns of a key that are still to be taken: their types, and the bytes that begin with them.
pub record ColumnsLeft : Type 0 where
  pub kinds : List KeyType
  pub bytes : List ℕ

-- the bytes hold their first column whole
abbrev pub is_whole : KeyType → List ℕ → Bool
is_whole kind bytes = nat_le (column_length kind bytes) (length bytes)

-- there is a first column, and the bytes hold it whole
abbrev pub has_column : List KeyType → List ℕ → Bool
has_column [] bytes = false
has_column (kind ∷ kinds) bytes = is_whole kind bytes

-- the value of the first column, and the bytes behind it
abbrev pub first_value : KeyType → List ℕ → KeyValue
first_value kind bytes = column_value kind (take (column_length kind bytes) bytes)

abbrev pub behind_first : KeyType → List ℕ → List ℕ
behind_first kind bytes = drop (column_length kind bytes) bytes

-- the value of a column, whose text its key lends
abbrev pub seen : ColumnValue → KeyValue
seen (Int z) = value.Int z
seen (Text bytes) = value.Text bytes.now
