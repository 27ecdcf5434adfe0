use Rattle.std.proofs.Common.{◌≡◌, drop}
use Rattle.mesa_catalog.specs.mesa_catalog_records.Names.{relation_from, relation_of}
use Rattle.mesa_validate.proofs.lookups.relation_asked.Given as goal

-- the tables that are left decide
abbrev pub invariant-loop-table : goal.invariant-loop-table
invariant-loop-table l = relation_from l.table l.name (drop l.table l.catalog.catalogue.tables) ≡ relation_of l.catalog.catalogue l.name
