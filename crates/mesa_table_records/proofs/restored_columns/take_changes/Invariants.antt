use Rattle.std.proofs.Common.{◌≡◌, ◌+◌, ◌≤◌, ◌++◌, length}
use Rattle.std.specs.VecDeque.{deque_len}
use Rattle.mesa_schema.specs.Changes.{columns_of, epoch_of, max_changes}
use Rattle.mesa_catalog_table.specs.mesa_store_spec.CheckpointFits.{changes_pass}
use Rattle.mesa_catalog_table.specs.Meaning.{widths_of}
use Rattle.mesa_table_records.specs.Stated.{sums_of}
use Rattle.mesa_table_records.proofs.restored_columns.take_changes.Given as goal

abbrev pub decreases-changes : goal.decreases-changes
decreases-changes l = deque_len l.left

-- the columns so far, and the changes that are left
abbrev pub invariant-changes : goal.invariant-changes
invariant-changes l = record {
  lineage : l.evolving ≡ record l.fn.first { changes = l.evolving.changes };
  changes : l.evolving.changes ++ l.left.items ≡ l.fn.changes;
  pass : changes_pass (columns_of l.evolving) l.left.items ≡ changes_pass (columns_of l.fn.first) l.fn.changes;
  few : epoch_of l.evolving + length l.left.items ≤ max_changes;
  widths : l.widths ≡ widths_of l.evolving;
  sums : l.sums ≡ sums_of l.evolving;
}
