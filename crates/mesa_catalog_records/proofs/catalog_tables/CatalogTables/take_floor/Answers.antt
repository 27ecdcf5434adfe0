use Rattle.std.proofs.Common.{◌∙◌, ◌<◌, ap, arith, length, map, subst, sym}
use Rattle.std.specs.Prelude.{nat_le, nat_lt}
use Rattle.std.specs.List.{AllByRecursion}
use Rattle.std.proofs.lemmas.Bool.Decides.{nat_tests}
use Rattle.std.proofs.lemmas.List.{with_items_is}
use Rattle.mesa_table_records.specs.mesa_store_spec.Catalog.{meta_from}
use Rattle.mesa_table_records.specs.mesa_catalog_table.Meaning.{IsTable, meta_of}
use Rattle.mesa_catalog_records.specs.Meaning.{catalogue_of}
use Rattle.mesa_catalog_records.specs.Readied.{record_in}
use Rattle.mesa_catalog_records.specs.declared.ready.Ready.TheVariants as ready_of
use Rattle.mesa_catalog_records.proofs.Applies.{kind_of_fits}
use Rattle.mesa_table_records.proofs.mesa_catalog_table.Tests.{both}
use Rattle.mesa_catalog_records.proofs.catalog_tables.CatalogTables.take_floor.Goals as goal

pub returns-clause-applied : goal.returns-clause-applied
returns-clause-applied c =
    let s = c.args.self.now in
    let items = with_items_is s.tables c.expire_tables.new.tables (omega arith) in
    let tables = ap (map (meta_of s.next)) items ∙ c.expire_tables.ensures.metas s.next ∙ ap (λ ts. map (meta_from c.args.version) (map (meta_of s.next) ts)) c.deref_mut.ensures.value in
    λ i. record { tables = tables i; floor = c.args.version; next = s.next; run = s.run }

pub returns-clause-live_files : goal.returns-clause-live_files
returns-clause-live_files c =
    let s = c.args.self.now in
    let version = c.args.version in
    let room = (both (nat_le s.floor version) (nat_lt version s.next) (kind_of_fits (catalogue_of s) (record_in (ready_of.Expire version)) c.requires.ready.fits)).1 in
    let below : version < s.next = grind (arith, nat_tests) in
    let few = c.requires.live_files.few in
    let items = with_items_is s.tables c.expire_tables.new.tables (omega arith) in
    let count = ap length items in
    record {
      few = omega arith;
      most = c.requires.live_files.most;
      floor = omega (arith, below);
      tables = subst (AllByRecursion (IsTable s.next)) (sym items) (c.expire_tables.ensures.tables s.next below (subst (AllByRecursion (IsTable s.next)) (sym c.deref_mut.ensures.value) c.requires.live_files.tables));
    }
