use Rattle.std.proofs.Common.{◌++◌, ◌∙◌, ap, sym}
use Rattle.std.specs.Prelude.{flat_map}
use Rattle.mesa_table_records.specs.mesa_record.declared.record.Record.TheVariants as record_of
use Rattle.mesa_table_records.specs.mesa_store_spec.Catalog.{TableMeta}
use Rattle.mesa_table_records.specs.mesa_store_spec.Ids.{delta_ids, dropped_deltas, dropped_ids}
use Rattle.mesa_table_records.proofs.mesa_catalog_table.Pushes.{on_ok}
use Rattle.mesa_catalog_records.specs.Meaning.{catalogue_of}
use Rattle.mesa_catalog_records.proofs.Dropped.{dropped_held}
use Rattle.mesa_catalog_records.proofs.catalog_tables.CatalogTables.push_dropped.Goals as goal

pub returns-then-base : goal.returns-then-base
returns-then-base c =
    let s = c.args.self.now in
    let k = catalogue_of s in
    let r = c.in-Swap in
    let held = ap (λ (u : TableMeta). flat_map delta_ids (dropped_deltas u r.to)) c.table.ensures.meta ∙ dropped_held s.next c.table.result.now r.to c.table.ensures.table in
    let same = sym held ∙ ap (λ base. dropped_ids k (record_of.Swap r.table base r.from r.to r.epoch r.files)) (sym c.if-base.true) ∙ ap (dropped_ids k) (sym r.is) in
    on_ok c.push_ids.result _ _ (λ more. more ∙ ap (λ gone. c.args.ids.now.items ++ gone) same) c.push_ids.ensures
