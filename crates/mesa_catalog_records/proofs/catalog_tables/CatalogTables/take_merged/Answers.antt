use Rattle.std.proofs.Common.{◌≡◌, ◌∙◌, ap, sym, subst, arith}
use Rattle.std.proofs.lemmas.List.{length-set}
use Rattle.mesa_table_records.specs.mesa_store_spec.Catalog.{TableMeta, merged_delta, meta_swapped}
use Rattle.mesa_table_records.specs.mesa_store_spec.Fitting.{may_be_work}
use Rattle.mesa_catalog_records.specs.declared.ready.Ready.TheVariants as ready_of
use Rattle.mesa_table_records.specs.mesa_catalog_table.Meaning.{IsTable, meta_of}
use Rattle.mesa_catalog_records.specs.Meaning.{catalogue_of}
use Rattle.mesa_table_records.specs.mesa_catalog_table.Room.{HasSpare}
use Rattle.mesa_catalog_records.specs.Readied.{record_in}
use Rattle.mesa_catalog_records.proofs.Applies.{kind_of_fits, put_meta, swap_of, swap_there}
use Rattle.mesa_catalog_records.proofs.TableMetas.{all_at, all_set, meta_here, there_within}
use Rattle.mesa_catalog_records.proofs.catalog_tables.CatalogTables.take_merged.Goals as goal

pub index_mut-table-requires : goal.index_mut-table-requires
index_mut-table-requires c =
    let s = c.args.self.now in
    let d = c.args.delta.value in
    let fits = swap_there (catalogue_of s) c.args.table c.args.base c.args.from c.args.to d.epoch d.files (kind_of_fits (catalogue_of s) (record_in (ready_of.Swap c.args.table c.args.base c.args.from c.args.to c.args.delta)) c.requires.ready.fits) in
    let within = there_within s c.args.table fits.0 in
    omega arith

pub swap-requires : goal.swap-requires
swap-requires c =
    let s = c.args.self.now in
    let d = c.args.delta.value in
    let fits = swap_there (catalogue_of s) c.args.table c.args.base c.args.from c.args.to d.epoch d.files (kind_of_fits (catalogue_of s) (record_in (ready_of.Swap c.args.table c.args.base c.args.from c.args.to c.args.delta)) c.requires.ready.fits) in
    let within = there_within s c.args.table fits.0 in
    subst HasSpare (sym c.index_mut-table.ensures.value) (all_at HasSpare s.tables.items c.args.table c.index_mut-table.result.now c.requires.ready.room.deltas within)

pub returns-clause-applied : goal.returns-clause-applied
returns-clause-applied c =
    let s = c.args.self.now in
    let t = c.index_mut-table.result.now in
    let d = c.args.delta.value in
    let base = c.args.base in
    let to = c.args.to in
    let fits = swap_there (catalogue_of s) c.args.table base c.args.from to d.epoch d.files (kind_of_fits (catalogue_of s) (record_in (ready_of.Swap c.args.table base c.args.from to c.args.delta)) c.requires.ready.fits) in
    let within = there_within s c.args.table fits.0 in
    let same = meta_here s c.args.table t within ∙ ap (meta_of s.next) (sym c.index_mut-table.ensures.value) in
    let table = subst (IsTable s.next) (sym c.index_mut-table.ensures.value) (all_at (IsTable s.next) s.tables.items c.args.table t c.requires.live_files.tables within) in
    let work = ap (λ (u : TableMeta). may_be_work (catalogue_of s) u base c.args.from to) (sym same) ∙ fits.1 in
    let swap = swap_of s t base c.args.from to table work in
    let merged : d ≡ merged_delta d.epoch d.files = (λ i. record { epoch = d.epoch; files = d.files; totals = c.requires.ready.made i }) in
    put_meta s c.args.table c.swap.new.table _ (c.swap.ensures.meta s.next table swap ∙ (λ i. meta_swapped (sym same i) base to (merged i)))

pub returns-clause-live_files : goal.returns-clause-live_files
returns-clause-live_files c =
    let s = c.args.self.now in
    let t = c.index_mut-table.result.now in
    let d = c.args.delta.value in
    let base = c.args.base in
    let to = c.args.to in
    let fits = swap_there (catalogue_of s) c.args.table base c.args.from to d.epoch d.files (kind_of_fits (catalogue_of s) (record_in (ready_of.Swap c.args.table base c.args.from to c.args.delta)) c.requires.ready.fits) in
    let within = there_within s c.args.table fits.0 in
    let same = meta_here s c.args.table t within ∙ ap (meta_of s.next) (sym c.index_mut-table.ensures.value) in
    let table = subst (IsTable s.next) (sym c.index_mut-table.ensures.value) (all_at (IsTable s.next) s.tables.items c.args.table t c.requires.live_files.tables within) in
    let work = ap (λ (u : TableMeta). may_be_work (catalogue_of s) u base c.args.from to) (sym same) ∙ fits.1 in
    let swap = swap_of s t base c.args.from to table work in
    let few = c.requires.live_files.few in
    let count = length-set s.tables.items c.args.table c.swap.new.table in
    record {
      few = omega arith;
      most = c.requires.live_files.most;
      floor = c.requires.live_files.floor;
      tables = all_set (IsTable s.next) s.tables.items c.args.table c.swap.new.table c.requires.live_files.tables (c.swap.ensures.table s.next table swap);
    }
