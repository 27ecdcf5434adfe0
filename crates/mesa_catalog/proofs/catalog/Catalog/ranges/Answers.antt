use Rattle.std.proofs.Common.{◌∙◌, ap, sym, arith, length}
use Rattle.std.proofs.lemmas.Bool.Decides.{nat_tests}
use Rattle.mesa_catalog_records.specs.mesa_store_spec.Catalog.{ranges_of, meta_at}
use Rattle.mesa_catalog.specs.Kept.{Reserved}
use Rattle.mesa_catalog_records.proofs.mesa_catalog_table.Tests.{if_ok}
use Rattle.mesa_catalog.proofs.catalog.Catalog.ranges.Goals as goal

pub table-requires-clause-there : goal.table-requires-clause-there
table-requires-clause-there c = let count = ap (λ (k : Reserved). length k.catalogue.tables) c.self.view_is in grind (arith, nat_tests)

pub returns-clause-ranges : goal.returns-clause-ranges
returns-clause-ranges c =
    let same = ap ranges_of (sym c.table.ensures.meta) ∙ ap (λ (k : Reserved). ranges_of (meta_at k.catalogue c.args.table)) c.self.view_is in
    if_ok c.ranges-2.result _ _ (λ r is. is ∙ same) (c.ranges-2.ensures.ranges c.self.inside.catalog_tables.next)
