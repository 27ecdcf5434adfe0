-- Which recasts a table allows, as code asks it.
use Rattle.std.specs.Prelude.{ℕ, List, map, drop, Bool, false, Option, Some, None, slice_get}
use Rattle.mesa_catalog_table.specs.mesa_columns.declared.columns.ValueColumn.{ValueColumn}
use Rattle.mesa_catalog_table.specs.mesa_columns.Columns.{place_of}
use Rattle.mesa_schema.specs.Changes.{Lineage}
use Rattle.mesa_batch.specs.Totals.{is_sum}
use Rattle.mesa_catalog_table.specs.mesa_record.declared.checkpoint.CheckpointSingle.{CheckpointSingle}
use Rattle.mesa_catalog_table.specs.mesa_store_spec.Fitting.{singles_renewed}

abbrev pub is_sum_if_any : Option ValueColumn → Bool
is_sum_if_any None = false
is_sum_if_any (Some c) = is_sum c.agg

-- there is a column at the place, and it is a sum
abbrev pub is_sum_at : List ValueColumn → Option ℕ → Bool
is_sum_at columns None = false
is_sum_at columns (Some place) = is_sum_if_any (slice_get columns place)

-- a column has the name, and it is a sum
abbrev pub is_sum_named : List ValueColumn → List ℕ → Bool
is_sum_named columns name = is_sum_at columns (place_of name (map (λ (c : ValueColumn). c.name) columns))

-- what is told of versions behind so many takes the places of these; nothing does where one before them took none
abbrev pub renewed_behind : Lineage → ℕ → List CheckpointSingle → List CheckpointSingle → Option ℕ → Bool
renewed_behind l epoch olds news None = false
renewed_behind l epoch olds news (Some told) = singles_renewed l epoch olds (drop told news)
