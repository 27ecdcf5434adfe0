use Rattle.std.proofs.Common.{◌∙◌, ap, sym, subst, arith}
use Rattle.std.proofs.lemmas.List.{length-set}
use Rattle.mesa_table_records.specs.mesa_store_spec.Catalog.{TableMeta, meta_recast}
use Rattle.mesa_table_records.specs.mesa_store_spec.Fitting.{recast_fits}
use Rattle.mesa_table_records.specs.mesa_catalog_table.Meaning.{IsTable, meta_of}
use Rattle.mesa_table_records.specs.Readied.{IsRecast, recasting_in}
use Rattle.mesa_catalog_records.specs.Meaning.{catalogue_of}
use Rattle.mesa_catalog_records.proofs.Applies.{put_meta, recast_there}
use Rattle.mesa_catalog_records.proofs.TableMetas.{all_at, all_set, meta_here, there_within}
use Rattle.mesa_catalog_records.proofs.catalog_tables.CatalogTables.take_recast.Goals as goal

pub index_mut-table-requires : goal.index_mut-table-requires
index_mut-table-requires c =
    let s = c.args.self.now in
    let fits = recast_there (catalogue_of s) (recasting_in c.args.table c.args.made) c.requires.ready.fits in
    let within = there_within s c.args.table fits.0 in
    omega arith

pub returns-clause-applied : goal.returns-clause-applied
returns-clause-applied c =
    let s = c.args.self.now in
    let t = c.index_mut-table.result.now in
    let y = c.args.made in
    let k = recasting_in c.args.table y in
    let fits = recast_there (catalogue_of s) k c.requires.ready.fits in
    let within = there_within s c.args.table fits.0 in
    let same = meta_here s c.args.table t within ∙ ap (meta_of s.next) (sym c.index_mut-table.ensures.value) in
    let table = subst (IsTable s.next) (sym c.index_mut-table.ensures.value) (all_at (IsTable s.next) s.tables.items c.args.table t c.requires.live_files.tables within) in
    let allowed = ap (λ (u : TableMeta). recast_fits u k) (sym same) ∙ fits.1 in
    let made = subst (λ (u : TableMeta). IsRecast u.lineage u.totals y k) same c.requires.ready.made in
    put_meta s c.args.table c.recast.new.table _ (c.recast.ensures.meta s.next k table allowed made ∙ ap (λ (u : TableMeta). meta_recast s.next u k) (sym same))

pub returns-clause-live_files : goal.returns-clause-live_files
returns-clause-live_files c =
    let s = c.args.self.now in
    let t = c.index_mut-table.result.now in
    let y = c.args.made in
    let k = recasting_in c.args.table y in
    let fits = recast_there (catalogue_of s) k c.requires.ready.fits in
    let within = there_within s c.args.table fits.0 in
    let same = meta_here s c.args.table t within ∙ ap (meta_of s.next) (sym c.index_mut-table.ensures.value) in
    let table = subst (IsTable s.next) (sym c.index_mut-table.ensures.value) (all_at (IsTable s.next) s.tables.items c.args.table t c.requires.live_files.tables within) in
    let allowed = ap (λ (u : TableMeta). recast_fits u k) (sym same) ∙ fits.1 in
    let made = subst (λ (u : TableMeta). IsRecast u.lineage u.totals y k) same c.requires.ready.made in
    let few = c.requires.live_files.few in
    let count = length-set s.tables.items c.args.table c.recast.new.table in
    record {
      few = omega arith;
      most = c.requires.live_files.most;
      floor = c.requires.live_files.floor;
      tables = all_set (IsTable s.next) s.tables.items c.args.table c.recast.new.table c.requires.live_files.tables (c.recast.ensures.table s.next k table allowed made);
    }
