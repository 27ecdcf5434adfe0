use Rattle.std.proofs.Common.{◌∙◌, ◌<◌, ap, sym, subst, arith}
use Rattle.std.specs.Prelude.{nat_le, nat_lt}
use Rattle.std.proofs.lemmas.Bool.Decides.{nat_tests}
use Rattle.std.proofs.lemmas.List.{length-set}
use Rattle.mesa_table_records.specs.mesa_store_spec.Catalog.{meta_at, meta_from}
use Rattle.mesa_table_records.specs.mesa_store_spec.Fitting.{expire_fits, is_there}
use Rattle.mesa_table_records.specs.mesa_catalog_table.Meaning.{IsTable, meta_of}
use Rattle.mesa_catalog_records.specs.Meaning.{catalogue_of}
use Rattle.mesa_catalog_records.specs.Readied.{record_in}
use Rattle.mesa_catalog_records.specs.declared.ready.Ready.TheVariants as ready_of
use Rattle.mesa_catalog_records.proofs.Applies.{kind_of_fits, put_meta}
use Rattle.mesa_catalog_records.proofs.TableMetas.{all_at, all_set, meta_here, there_within}
use Rattle.mesa_table_records.proofs.mesa_catalog_table.Tests.{both}
use Rattle.mesa_catalog_records.proofs.catalog_tables.CatalogTables.take_oldest.Goals as goal

pub index_mut-table-requires : goal.index_mut-table-requires
index_mut-table-requires c =
    let s = c.args.self.now in
    let fits = both (is_there (catalogue_of s) c.args.table) (expire_fits (catalogue_of s) (meta_at (catalogue_of s) c.args.table).oldest c.args.version) (kind_of_fits (catalogue_of s) (record_in (ready_of.ExpireTable c.args.table c.args.version)) c.requires.ready.fits) in
    let within = there_within s c.args.table fits.0 in
    omega arith

pub returns-clause-applied : goal.returns-clause-applied
returns-clause-applied c =
    let s = c.args.self.now in
    let t = c.index_mut-table.result.now in
    let fits = both (is_there (catalogue_of s) c.args.table) (expire_fits (catalogue_of s) (meta_at (catalogue_of s) c.args.table).oldest c.args.version) (kind_of_fits (catalogue_of s) (record_in (ready_of.ExpireTable c.args.table c.args.version)) c.requires.ready.fits) in
    let within = there_within s c.args.table fits.0 in
    let same = meta_here s c.args.table t within ∙ ap (meta_of s.next) (sym c.index_mut-table.ensures.value) in
    put_meta s c.args.table c.expire.new.self _ (c.expire.ensures.meta s.next ∙ ap (meta_from c.args.version) (sym same))

pub returns-clause-live_files : goal.returns-clause-live_files
returns-clause-live_files c =
    let s = c.args.self.now in
    let t = c.index_mut-table.result.now in
    let oldest = (meta_at (catalogue_of s) c.args.table).oldest in
    let fits = both (is_there (catalogue_of s) c.args.table) (expire_fits (catalogue_of s) oldest c.args.version) (kind_of_fits (catalogue_of s) (record_in (ready_of.ExpireTable c.args.table c.args.version)) c.requires.ready.fits) in
    let within = there_within s c.args.table fits.0 in
    let room = (both (nat_le oldest c.args.version) (nat_lt c.args.version s.next) fits.1).1 in
    let below : c.args.version < s.next = grind (arith, nat_tests) in
    let table = subst (IsTable s.next) (sym c.index_mut-table.ensures.value) (all_at (IsTable s.next) s.tables.items c.args.table t c.requires.live_files.tables within) in
    let few = c.requires.live_files.few in
    let count = length-set s.tables.items c.args.table c.expire.new.self in
    record {
      few = omega arith;
      most = c.requires.live_files.most;
      floor = c.requires.live_files.floor;
      tables = all_set (IsTable s.next) s.tables.items c.args.table c.expire.new.self c.requires.live_files.tables (c.expire.ensures.table s.next below table);
    }
