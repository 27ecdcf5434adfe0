use Rattle.std.proofs.Common.{◌∙◌, ap, sym}
use Rattle.mesa_table_records.specs.mesa_store_spec.Fitting.{may_be_work}
use Rattle.mesa_catalog_records.specs.Meaning.{catalogue_of}
use Rattle.mesa_table_records.specs.mesa_catalog_table.Meaning.{meta_of}
use Rattle.mesa_catalog_records.proofs.catalog_tables.CatalogTables.may_be_work.Goals as goal

pub returns-then-base : goal.returns-then-base
returns-then-base c =
    let s = c.args.self.now in
    let t = meta_of s.next c.args.t.now in
    c.may_be_base.ensures s.next ∙ ap (λ base. may_be_work (catalogue_of s) t base c.args.from c.args.to) (sym c.if-base.true)
