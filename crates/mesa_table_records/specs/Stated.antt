-- What a checkpoint states of a table that is held.
use Rattle.std.specs.Prelude.{ℕ, ◌+◌, List, [], map}
use Rattle.std.specs.List.{range_with_len}
use Rattle.mesa_catalog_table.specs.mesa_columns.Columns.{Columns, aggs_of}
use Rattle.mesa_schema.specs.Changes.{Lineage, columns_at, epoch_of}
use Rattle.mesa_batch.specs.Totals.{sums_in}
use Rattle.mesa_catalog_table.specs.mesa_record.declared.checkpoint.CheckpointRange.{CheckpointRange}
use Rattle.mesa_catalog_table.specs.mesa_record.declared.checkpoint.CheckpointSingle.{CheckpointSingle}
use Rattle.mesa_catalog_table.specs.mesa_store_spec.Catalog.{Delta}
use Rattle.mesa_catalog_table.specs.mesa_store_spec.Checkpoint.{range_stated, single_stated, stating_single}
use Rattle.mesa_catalog_table.specs.declared.table.Loaded.{Loaded}

-- what is stated of a version, which is nothing if it brought no rows
abbrev pub stating_loaded : Loaded → List CheckpointSingle
stating_loaded l = stating_single l.version l.delta.value.epoch l.delta.value.totals l.delta.value.files

-- the delta of a range that is stated, and what a version brought that is stated
abbrev pub delta_stated : CheckpointRange → Delta
delta_stated r = (range_stated r).delta

abbrev pub loaded_stated : CheckpointSingle → ℕ × Delta
loaded_stated s = (s.version, single_stated s)

-- a table whose columns begin with an epoch, which has no views and no changes yet
abbrev pub lineage_begun : ℕ → Columns → Lineage
lineage_begun begins s = record { begins = begins; first = s; changes = []; views = [] }

-- how many sum columns there were in each epoch
abbrev pub sums_of : Lineage → List ℕ
sums_of l = map (λ epoch. sums_in (aggs_of (columns_at l epoch))) (range_with_len 0 (epoch_of l + 1))
