use Rattle.std.proofs.Common.{◌≡◌, ℕ, map, take}
use Rattle.std.specs.List.{AllByRecursion}
use Rattle.mesa_table_records.specs.mesa_catalog_table.Meaning.{IsTable, meta_of}
use Rattle.mesa_catalog_records.proofs.copying.share_tables.Given as goal

-- the tables so far
abbrev pub invariant-loop-table : goal.invariant-loop-table
invariant-loop-table l = record {
  same : (next : ℕ) → map (meta_of next) l.shared.items ≡ map (meta_of next) (take l.table-index l.tables);
  tables : (next : ℕ) → AllByRecursion (IsTable next) l.tables → AllByRecursion (IsTable next) l.shared.items;
}
