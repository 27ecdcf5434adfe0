-- Which columns make a schema.
use Rattle.std.specs.Prelude.{ℕ, List, length, Bool, ◌==◌, ◌||◌, nat_lt, Option, None, Some, Result, Ok, Err, is_ok}
use Rattle.mesa_key.specs.mesa_list.Checks.{◌>>◌, refuse_if}
use Rattle.mesa_columns.specs.declared.schema.SchemaError.{SchemaError}
use Rattle.mesa_columns.specs.declared.schema.SchemaError.TheVariants.{NoKey, NoValue, TooManyColumns, NameTwice}
use Rattle.mesa_columns.specs.Names.{repeated}
use Rattle.mesa_columns.specs.Columns.{Columns, key_names, value_names}

-- how many columns of each sort a schema may have
abbrev pub max_columns : ℕ
max_columns = 16

abbrev refuse_repeated : Option (List ℕ) → Result (Unit {0}) SchemaError
refuse_repeated None = Ok tt
refuse_repeated (Some name) = Err (NameTwice name)

-- The rules of a schema in their order: there are key columns and value columns, not too many of either, and no name twice among those of a sort.
abbrev pub schema_checked : Columns → Result (Unit {0}) SchemaError
schema_checked s = do
  refuse_if (length s.keys == 0) NoKey
  refuse_if (length s.values == 0) NoValue
  refuse_if (nat_lt max_columns (length s.keys) || nat_lt max_columns (length s.values)) TooManyColumns
  refuse_repeated (repeated (key_names s))
  refuse_repeated (repeated (value_names s))

-- the columns keep all the rules
abbrev pub is_schema : Columns → Bool
is_schema s = is_ok (schema_checked s)
