use Rattle.std.proofs.Common.{◌≡◌, ℕ, map, take}
use Rattle.std.specs.List.{AllByRecursion}
use Rattle.mesa_catalog_records.specs.mesa_store_spec.Checkpoint.{stating_table}
use Rattle.mesa_catalog_records.specs.mesa_catalog_table.Meaning.{IsTable, meta_of}
use Rattle.mesa_catalog.proofs.stating.state_tables.Given as goal

-- what is stated of the tables so far
abbrev pub invariant-loop-table : goal.invariant-loop-table
invariant-loop-table l = (next : ℕ) → AllByRecursion (IsTable next) l.tables → l.all.items ≡ map stating_table (map (meta_of next) (take l.table-index l.tables))
