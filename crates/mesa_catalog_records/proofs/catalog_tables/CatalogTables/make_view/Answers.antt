use Rattle.std.proofs.Common.{◌∙◌, ap, refl, sym, arith, length}
use Rattle.mesa_table_records.specs.mesa_columns.declared.views.View.{View}
use Rattle.mesa_schema.specs.Changes.{Lineage}
use Rattle.mesa_table_records.specs.mesa_store_spec.Catalog.{TableMeta}
use Rattle.mesa_catalog_records.specs.Meaning.{catalogue_of}
use Rattle.mesa_catalog_records.proofs.Made.{view_made, view_record, view_there}
use Rattle.mesa_catalog_records.proofs.catalog_tables.CatalogTables.make_view.Goals as goal

pub table-old-requires-clause-there : goal.table-old-requires-clause-there
table-old-requires-clause-there c = (view_there (catalogue_of c.args.self.now) c.args.table c.args.name.now c.args.keys.now c.args.values.now c.requires.fits).0

pub lineage_with_view-requires : goal.lineage_with_view-requires
lineage_with_view-requires c =
    let few = (view_there (catalogue_of c.args.self.now) c.args.table c.args.name.now c.args.keys.now c.args.values.now c.requires.fits).1 in
    let same = ap (λ (l : Lineage). length l.views) (c.deref.ensures ∙ sym (ap (λ (t : TableMeta). t.lineage) c.table-old.ensures.meta)) in
    omega arith

pub returns-clause-record : goal.returns-clause-record
returns-clause-record c =
    let given : View = record { name = c.args.name.now; keys = c.args.keys.now; values = c.args.values.now } in
    view_record c.args.table _ _ _ given c.in_ok-evolving.ensures refl

pub returns-clause-made : goal.returns-clause-made
returns-clause-made c = view_made _ _ _ _ c.in_ok-evolving.ensures (c.deref.ensures ∙ sym (ap (λ (t : TableMeta). t.lineage) c.table-old.ensures.meta))
