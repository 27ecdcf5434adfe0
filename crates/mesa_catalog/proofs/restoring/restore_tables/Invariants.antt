use Rattle.std.proofs.Common.{◌≡◌, ◌++◌, map}
use Rattle.std.specs.VecDeque.{deque_len}
use Rattle.std.specs.List.{AllByRecursion, list_all}
use Rattle.mesa_catalog_records.specs.mesa_store_spec.Checkpoint.{meta_stated}
use Rattle.mesa_catalog_records.specs.mesa_store_spec.CheckpointFits.{table_fits}
use Rattle.mesa_catalog_records.specs.mesa_catalog_table.Meaning.{IsTable, meta_of}
use Rattle.mesa_catalog.proofs.restoring.restore_tables.Given as goal

abbrev pub decreases-tables : goal.decreases-tables
decreases-tables l = deque_len l.left

-- the tables so far, and those that are left
abbrev pub invariant-tables : goal.invariant-tables
invariant-tables l = record {
  metas : map (meta_of l.fn.next) l.tables.items ++ map (meta_stated l.fn.next) l.left.items ≡ map (meta_stated l.fn.next) l.fn.stated;
  fits : list_all (table_fits l.fn.floor l.fn.next) l.left.items ≡ list_all (table_fits l.fn.floor l.fn.next) l.fn.stated;
  tables : AllByRecursion (IsTable l.fn.next) l.tables.items;
}
