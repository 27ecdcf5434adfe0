use Rattle.std.proofs.Common.{◌≡◌, ◌++◌, take}
use Rattle.std.specs.Prelude.{flat_map}
use Rattle.mesa_catalog_records.specs.mesa_catalog_table.Named.{table_ids}
use Rattle.mesa_catalog.proofs.files.push_ids.Given as goal

-- the ids of the tables so far
abbrev pub invariant-loop-table : goal.invariant-loop-table
invariant-loop-table l = l.ids.items ≡ l.initial.ids.items ++ flat_map table_ids (take l.table-index l.tables)
