use Rattle.std.proofs.Common.{◌≡◌, ℕ, ◌++◌, map, take}
use Rattle.std.specs.Prelude.{flat_map}
use Rattle.mesa_catalog_records.specs.mesa_store_spec.Fitting.{meta_live}
use Rattle.mesa_catalog_records.specs.mesa_catalog_table.declared.table.Table.{Table}
use Rattle.mesa_catalog_records.specs.mesa_catalog_table.Files.{recorded_of}
use Rattle.mesa_catalog_records.specs.mesa_catalog_table.Meaning.{meta_of}
use Rattle.mesa_catalog.proofs.files.push_recorded.Given as goal

-- the files of the tables so far
abbrev pub invariant-loop-table : goal.invariant-loop-table
invariant-loop-table l = (next : ℕ) → l.files.items ≡ l.initial.files.items ++ flat_map (λ (t : Table). map recorded_of (meta_live (meta_of next t))) (take l.table-index l.tables)
