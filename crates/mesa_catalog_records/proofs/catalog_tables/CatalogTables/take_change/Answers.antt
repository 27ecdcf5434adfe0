use Rattle.std.proofs.Common.{◌∙◌, ap, sym, subst, arith}
use Rattle.std.proofs.lemmas.List.{length-set}
use Rattle.mesa_table_records.specs.mesa_catalog_table.Meaning.{IsTable, meta_of}
use Rattle.mesa_catalog_records.specs.Meaning.{catalogue_of}
use Rattle.mesa_catalog_records.specs.Readied.{last_change, record_in}
use Rattle.mesa_catalog_records.specs.declared.ready.Ready.TheVariants as ready_of
use Rattle.mesa_catalog_records.proofs.Applies.{changed_meta, kind_of_fits, put_meta}
use Rattle.mesa_catalog_records.proofs.Made.{change_there}
use Rattle.mesa_catalog_records.proofs.TableMetas.{all_at, all_set, meta_here, there_within}
use Rattle.mesa_catalog_records.proofs.catalog_tables.CatalogTables.take_change.Goals as goal

pub index_mut-table-requires : goal.index_mut-table-requires
index_mut-table-requires c =
    let s = c.args.self.now in
    let fits = kind_of_fits (catalogue_of s) (record_in (ready_of.Alter c.args.table c.args.evolving c.args.widths c.args.totals)) c.requires.ready.fits in
    let within = there_within s c.args.table (change_there (catalogue_of s) c.args.table (last_change c.args.evolving.value) fits) in
    omega arith

pub returns-clause-applied : goal.returns-clause-applied
returns-clause-applied c =
    let s = c.args.self.now in
    let t = c.index_mut-table.result.now in
    let fits = kind_of_fits (catalogue_of s) (record_in (ready_of.Alter c.args.table c.args.evolving c.args.widths c.args.totals)) c.requires.ready.fits in
    let within = there_within s c.args.table (change_there (catalogue_of s) c.args.table (last_change c.args.evolving.value) fits) in
    let same = meta_here s c.args.table t within ∙ ap (meta_of s.next) (sym c.index_mut-table.ensures.value) in
    put_meta s c.args.table _ _ (changed_meta s.next t _ c.args.evolving c.args.widths c.args.totals same c.requires.ready.made.0 c.requires.ready.made.2)

pub returns-clause-live_files : goal.returns-clause-live_files
returns-clause-live_files c =
    let s = c.args.self.now in
    let t = c.index_mut-table.result.now in
    let fits = kind_of_fits (catalogue_of s) (record_in (ready_of.Alter c.args.table c.args.evolving c.args.widths c.args.totals)) c.requires.ready.fits in
    let within = there_within s c.args.table (change_there (catalogue_of s) c.args.table (last_change c.args.evolving.value) fits) in
    let table = subst (IsTable s.next) (sym c.index_mut-table.ensures.value) (all_at (IsTable s.next) s.tables.items c.args.table t c.requires.live_files.tables within) in
    let few = c.requires.live_files.few in
    let count = length-set s.tables.items c.args.table (record t { evolving = c.args.evolving; widths = c.args.widths; totals = c.args.totals }) in
    record {
      few = omega arith;
      most = c.requires.live_files.most;
      floor = c.requires.live_files.floor;
      tables = all_set (IsTable s.next) s.tables.items c.args.table _ c.requires.live_files.tables (record { tens = table.tens; loaded = table.loaded; oldest = table.oldest; widths = c.requires.ready.made.1 });
    }
