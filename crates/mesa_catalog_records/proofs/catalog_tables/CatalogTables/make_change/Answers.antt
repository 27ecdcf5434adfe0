use Rattle.std.proofs.Common.{◌++◌, ◌∷◌, [], ◌∙◌, ap, refl, sym, length}
use Rattle.mesa_table_records.specs.mesa_columns.Columns.{Columns}
use Rattle.mesa_schema.specs.Changes.{Lineage, columns_of}
use Rattle.mesa_table_records.specs.mesa_batch.Totals.{totals_after}
use Rattle.mesa_table_records.specs.mesa_store_spec.Catalog.{TableMeta}
use Rattle.mesa_catalog_records.specs.Meaning.{catalogue_of}
use Rattle.mesa_table_records.specs.mesa_catalog_table.Meaning.{widths_of}
use Rattle.mesa_catalog_records.proofs.Made.{change_last, change_made, change_record, change_there, widths_changed}
use Rattle.mesa_catalog_records.proofs.catalog_tables.CatalogTables.make_change.Goals as goal

pub table-old-requires-clause-there : goal.table-old-requires-clause-there
table-old-requires-clause-there c = change_there (catalogue_of c.args.self.now) c.args.table c.args.change.now c.requires.fits

pub returns-clause-record : goal.returns-clause-record
returns-clause-record c = change_record c.args.table _ _ _ c.args.change.now c.in_ok-evolving.ensures refl

pub returns-clause-made : goal.returns-clause-made
returns-clause-made c =
    let is = c.in_ok-evolving.ensures in
    let sound_rows = sym (ap (λ (t : TableMeta). t.lineage) c.table-old.ensures.meta) in
    let old = c.deref-2.ensures in
    let widths = c.in_ok-copy.ensures ∙ c.table-old.ensures.table.widths ∙ ap widths_of (sym old) in
    let width = ap (λ (s : Columns). length s.values) c.present-2.ensures.columns ∙ ap (λ (l : Lineage). length (columns_of l).values) (c.deref-3.ensures ∙ is) in
    let columns = c.present.ensures.columns ∙ ap columns_of (c.deref.ensures ∙ sound_rows) in
    let change = sym (change_last _ _ _ is) in
    let totals = sym (ap (λ (t : TableMeta). t.totals) c.table-old.ensures.meta) in (
      change_made _ _ _ _ is (old ∙ sound_rows),
      c.in_ok-widths.ensures ∙ (λ i. widths i ++ width i ∷ []) ∙ sym (widths_changed c.deref-2.result.now c.args.change.now) ∙ ap widths_of (sym is),
      c.in_ok-totals.ensures ∙ (λ i. totals_after (columns i) (change i) (totals i)),
    )
