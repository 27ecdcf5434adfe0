use Rattle.std.proofs.Common.{◌≡◌, ◌+◌, ◌∙◌, ap, sym, subst, arith, is_ok}
use Rattle.std.specs.Prelude.{◌==◌, ◌&&◌}
use Rattle.std.proofs.lemmas.Bool.Decides.{nat_tests}
use Rattle.mesa_schema.specs.Changes.{epoch_of}
use Rattle.mesa_schema.specs.Recasts.{recast_checked, recast_lineage}
use Rattle.mesa_table_records.specs.mesa_record.declared.record.Record.TheVariants as record_of
use Rattle.mesa_table_records.specs.mesa_store_spec.Catalog.{TableMeta, recast_in, meta_at}
use Rattle.mesa_table_records.specs.mesa_store_spec.Fitting.{is_there, ranges_renewed, recast_fits}
use Rattle.mesa_table_records.specs.Readied.{IsRecast, recasting_in}
use Rattle.mesa_table_records.proofs.mesa_catalog_table.Tests.{both}
use Rattle.mesa_catalog_records.specs.Meaning.{catalogue_of}
use Rattle.mesa_catalog_records.proofs.catalog_tables.CatalogTables.make_renewed.Goals as goal

pub table-requires-clause-there : goal.table-requires-clause-there
table-requires-clause-there c = (both _ _ c.requires.fits).0

pub make_recast-requires-clause-checked : goal.make_recast-requires-clause-checked
make_recast-requires-clause-checked c =
    let k = c.args.told.now in
    let t = meta_at (catalogue_of c.args.self.now) k.table in
    let fits = (both (is_there (catalogue_of c.args.self.now) k.table) (recast_fits t k) c.requires.fits).1 in
    let first = (both (is_ok (recast_checked t.lineage (recast_in k)) && (k.epoch == epoch_of t.lineage + 1)) (ranges_renewed (recast_lineage t.lineage (recast_in k)) t k) fits).0 in
    let checked = (both (is_ok (recast_checked t.lineage (recast_in k))) (k.epoch == epoch_of t.lineage + 1) first).0 in
    ap (λ (u : TableMeta). is_ok (recast_checked u.lineage (recast_in k))) (sym c.table.ensures.meta) ∙ checked

pub make_recast-requires-clause-next : goal.make_recast-requires-clause-next
make_recast-requires-clause-next c =
    let k = c.args.told.now in
    let t = meta_at (catalogue_of c.args.self.now) k.table in
    let fits = (both (is_there (catalogue_of c.args.self.now) k.table) (recast_fits t k) c.requires.fits).1 in
    let first = (both (is_ok (recast_checked t.lineage (recast_in k)) && (k.epoch == epoch_of t.lineage + 1)) (ranges_renewed (recast_lineage t.lineage (recast_in k)) t k) fits).0 in
    let test = (both (is_ok (recast_checked t.lineage (recast_in k))) (k.epoch == epoch_of t.lineage + 1) first).1 in
    let next : k.epoch ≡ epoch_of t.lineage + 1 = grind (arith, nat_tests, test) in
    next ∙ ap (λ (u : TableMeta). epoch_of u.lineage + 1) c.table.ensures.meta

pub returns-clause-record : goal.returns-clause-record
returns-clause-record c = ap record_of.Recast c.in_ok-made.ensures.record

pub returns-clause-made : goal.returns-clause-made
returns-clause-made c =
    let y = c.in_ok-made.made in
    let k = c.args.told.now in
    let l = c.table.result.now.evolving.value in
    subst (λ (u : TableMeta). IsRecast u.lineage u.totals y (recasting_in k.table y)) (sym c.table.ensures.meta)
    (subst (IsRecast l c.table.result.now.totals y) (sym c.in_ok-made.ensures.record) c.in_ok-made.ensures.made)
