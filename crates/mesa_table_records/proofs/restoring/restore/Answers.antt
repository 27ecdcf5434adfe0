use Rattle.std.proofs.Common.{◌∙◌, refl, sym}
use Rattle.mesa_catalog_table.specs.declared.table.Table.{Table}
use Rattle.mesa_table_records.proofs.Restored.{restored_parts, restored_meta, restored_table}
use Rattle.mesa_table_records.proofs.restoring.restore.Goals as goal

pub returns-clause-meta : goal.returns-clause-meta
returns-clause-meta c =
    let s = c.args.stated in
    let t : Table = record { name = s.name; evolving = c.in_ok-evolving.evolving; widths = c.in_ok-evolving.widths; totals = s.totals; oldest = s.oldest; base = c.in_ok-base.base; cumulatives = c.in_ok-cumulatives.cumulatives; loaded = c.in_ok-loaded.loaded } in
    restored_meta c.args.next s t (restored_parts c.args.floor c.args.next s t c.in_ok-columns.columns.evolving c.start_behind-start.result c.in_ok-columns.ensures.lineage c.start_behind-start.ensures.start
    refl c.in_ok-evolving.ensures.evolving c.in_ok-evolving.ensures.widths refl refl c.in_ok-base.ensures.base c.in_ok-cumulatives.ensures.cumulatives c.in_ok-loaded.ensures.loaded
    c.in_ok-base.ensures.fits c.in_ok-cumulatives.ensures.fits c.in_ok-loaded.ensures.fits (sym c.starts_fit.ensures ∙ c.if-not-starts_fit.false))

pub returns-clause-table : goal.returns-clause-table
returns-clause-table c =
    let s = c.args.stated in
    let t : Table = record { name = s.name; evolving = c.in_ok-evolving.evolving; widths = c.in_ok-evolving.widths; totals = s.totals; oldest = s.oldest; base = c.in_ok-base.base; cumulatives = c.in_ok-cumulatives.cumulatives; loaded = c.in_ok-loaded.loaded } in
    restored_table c.args.next s t (restored_parts c.args.floor c.args.next s t c.in_ok-columns.columns.evolving c.start_behind-start.result c.in_ok-columns.ensures.lineage c.start_behind-start.ensures.start
    refl c.in_ok-evolving.ensures.evolving c.in_ok-evolving.ensures.widths refl refl c.in_ok-base.ensures.base c.in_ok-cumulatives.ensures.cumulatives c.in_ok-loaded.ensures.loaded
    c.in_ok-base.ensures.fits c.in_ok-cumulatives.ensures.fits c.in_ok-loaded.ensures.fits (sym c.starts_fit.ensures ∙ c.if-not-starts_fit.false))
