use Rattle.std.proofs.Common.{◌≡◌, drop, map}
use Rattle.std.specs.List.{position_from}
use Rattle.mesa_list.specs.Bytes.{same_bytes}
use Rattle.mesa_catalog.specs.mesa_store_spec.Catalog.{TableMeta}
use Rattle.mesa_validate.specs.Seen.{number_of}
use Rattle.mesa_validate.proofs.lookups.table_number.Given as goal

-- the tables that are left decide
abbrev pub invariant-loop-table : goal.invariant-loop-table
invariant-loop-table l = position_from (same_bytes l.name) l.table (drop l.table (map (λ (t : TableMeta). t.name) l.catalog.catalogue.tables)) ≡ number_of l.catalog.catalogue l.name
