use Rattle.mesa_catalog_records.proofs.catalog_tables.CatalogTables.may_recast.Goals as goal

pub returns : goal.returns
returns c = c.allows_recast.ensures c.args.self.now.next c.requires
