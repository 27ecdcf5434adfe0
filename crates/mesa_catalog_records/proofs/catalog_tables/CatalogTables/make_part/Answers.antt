use Rattle.std.proofs.Common.{◌∙◌, ap, sym}
use Rattle.std.specs.Prelude.{is_none}
use Rattle.mesa_table_records.specs.mesa_batch.Totals.{over_bound}
use Rattle.mesa_table_records.specs.mesa_store_spec.Catalog.{TableMeta}
use Rattle.mesa_table_records.proofs.mesa_catalog_table.Tests.{both}
use Rattle.mesa_catalog_records.proofs.catalog_tables.CatalogTables.make_part.Goals as goal

pub table-requires-clause-there : goal.table-requires-clause-there
table-requires-clause-there c = (both _ _ c.requires.fits).0

pub totals_with-requires : goal.totals_with-requires
totals_with-requires c =
    let fits = (both _ _ c.requires.fits).1 in
    ap (λ (t : TableMeta). is_none (over_bound t.totals c.args.part.now.totals)) (sym c.table.ensures.meta) ∙ (both _ _ fits).1
