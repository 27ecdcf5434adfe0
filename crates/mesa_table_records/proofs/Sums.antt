-- How many sum columns there were in an epoch.
use Rattle.std.proofs.Common.{◌≡◌, ℕ, ◌+◌, ◌≤◌, ◌<◌, length, get_or, arith}
use Rattle.std.proofs.lemmas.List.FromFn.{get_or-map-range_with_len, length-map-range_with_len}
use Rattle.mesa_catalog_table.specs.mesa_columns.Columns.{aggs_of}
use Rattle.mesa_schema.specs.Changes.{Lineage, columns_at, epoch_of}
use Rattle.mesa_batch.specs.Totals.{sums_in}
use Rattle.mesa_table_records.specs.Stated.{sums_of}

pub sums_at : (l : Lineage) (epoch : ℕ) → epoch ≤ epoch_of l → get_or (sums_of l) epoch 0 ≡ sums_in (aggs_of (columns_at l epoch))
sums_at l epoch h = get_or-map-range_with_len (λ e. sums_in (aggs_of (columns_at l e))) 0 (epoch_of l + 1) epoch epoch 0 (omega arith) (omega arith)

pub sums_there : (l : Lineage) (epoch : ℕ) → epoch ≤ epoch_of l → epoch < length (sums_of l)
sums_there l epoch h = let count = length-map-range_with_len (λ e. sums_in (aggs_of (columns_at l e))) 0 (epoch_of l + 1) in omega arith
