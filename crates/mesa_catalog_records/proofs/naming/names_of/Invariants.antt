use Rattle.std.proofs.Common.{◌≡◌, ◌++◌, [], take}
use Rattle.std.specs.Prelude.{flat_map}
use Rattle.mesa_catalog_records.specs.Names.{table_names}
use Rattle.mesa_catalog_records.proofs.naming.names_of.Given as goal

-- the names of the tables so far
abbrev pub invariant-loop-table : goal.invariant-loop-table
invariant-loop-table l = l.names.items ≡ [] ++ flat_map table_names (take l.table-index l.tables)
