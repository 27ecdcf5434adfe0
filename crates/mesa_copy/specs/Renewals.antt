-- What a recast makes of its table's columns.
use Rattle.std.specs.Prelude.{◌≡◌, IsTrue}
use Rattle.mesa_schema.specs.Changes.{columns_of}
use Rattle.mesa_compact.specs.mesa_columns.Columns.{Columns}
use Rattle.mesa_schema.specs.Recasts.{Recast, recast_columns, recast_keys, recast_values}
use Rattle.mesa_filter.specs.Query.{are_places}
use Rattle.mesa_copy.specs.declared.renewal.Renewal.{Renewal}

-- the columns before
abbrev pub columns_in : Renewal → Columns
columns_in x = columns_of x.table.value

-- The columns after a recast to these, and the places of those among the columns before.
pub record IsRenewal (r : Recast) (x : Renewal) : Type 0 where
  pub renewed : columns_of x.renewed ≡ recast_columns (columns_in x) r
  pub columns : x.columns.items ≡ recast_keys (columns_in x) r
  pub values : x.values.items ≡ recast_values (columns_in x) r
  pub columns_there : IsTrue (are_places (columns_in x).keys x.columns.items)
  pub values_there : IsTrue (are_places (columns_in x).values x.values.items)
