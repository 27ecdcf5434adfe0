use Rattle.std.proofs.Common.{◌≡◌, drop, map}
use Rattle.mesa_catalog_records.specs.Names.{relation_from, relation_of}
use Rattle.mesa_catalog_records.specs.Meaning.{catalogue_of}
use Rattle.mesa_table_records.specs.mesa_catalog_table.Meaning.{meta_of}
use Rattle.mesa_catalog_records.proofs.catalog_tables.CatalogTables.find.Given as goal

-- the tables that are left decide
abbrev pub invariant-loop-number : goal.invariant-loop-number
invariant-loop-number l = relation_from l.number l.name (map (meta_of l.self.next) (drop l.number l.table-items)) ≡ relation_of (catalogue_of l.self) l.name
