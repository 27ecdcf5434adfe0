use Rattle.std.proofs.Common.{◌++◌, ◌∙◌, ap, sym}
use Rattle.mesa_table_records.specs.mesa_store_spec.Ids.{recast_dropped}
use Rattle.mesa_table_records.proofs.mesa_catalog_table.Pushes.{on_ok}
use Rattle.mesa_catalog_records.proofs.Dropped.{recast_held}
use Rattle.mesa_catalog_records.proofs.catalog_tables.CatalogTables.push_recast_ids.Goals as goal

pub returns : goal.returns
returns c =
    let held = ap recast_dropped c.table.ensures.meta ∙ recast_held c.args.self.now.next c.table.result.now in
    on_ok c.push_recast_ids.result _ _ (λ more. more ∙ ap (λ gone. c.args.ids.now.items ++ gone) (sym held)) c.push_recast_ids.ensures
