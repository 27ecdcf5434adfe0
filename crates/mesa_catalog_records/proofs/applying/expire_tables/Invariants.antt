use Rattle.std.proofs.Common.{◌≡◌, ◌<◌, ◌++◌, ℕ, drop, map, take}
use Rattle.std.specs.List.{AllByRecursion}
use Rattle.mesa_table_records.specs.mesa_store_spec.Catalog.{meta_from}
use Rattle.mesa_table_records.specs.mesa_catalog_table.Meaning.{IsTable, meta_of}
use Rattle.mesa_catalog_records.proofs.applying.expire_tables.Given as goal

-- the tables so far have let them go, and the others are as they were
abbrev pub invariant-loop-table : goal.invariant-loop-table
invariant-loop-table l = record {
  metas : (next : ℕ) → map (meta_of next) (take l.table-index l.tables) ++ map (meta_from l.version) (map (meta_of next) (drop l.table-index l.tables)) ≡ map (meta_from l.version) (map (meta_of next) l.initial.tables);
  tables : (next : ℕ) → l.version < next → AllByRecursion (IsTable next) l.initial.tables → AllByRecursion (IsTable next) l.tables;
}
