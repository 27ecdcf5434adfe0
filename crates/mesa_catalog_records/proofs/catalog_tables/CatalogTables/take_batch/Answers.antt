use Rattle.std.proofs.Common.{◌+◌, ◌∙◌, List, ap, sym, subst, arith, length, map}
use Rattle.std.specs.Prelude.{slice_get, IfSome}
use Rattle.std.specs.List.{AllByRecursion}
use Rattle.std.proofs.lemmas.List.{with_items_is}
use Rattle.mesa_table_records.specs.mesa_store_spec.Catalog.{metas_loaded}
use Rattle.mesa_table_records.specs.mesa_catalog_table.declared.table.Table.{Table}
use Rattle.mesa_table_records.specs.declared.ready.ReadyPart.{ReadyPart}
use Rattle.mesa_catalog_records.specs.declared.ready.Ready.TheVariants as ready_of
use Rattle.mesa_table_records.specs.mesa_catalog_table.Meaning.{IsTable, meta_of}
use Rattle.mesa_catalog_records.specs.Meaning.{catalogue_of}
use Rattle.mesa_table_records.specs.mesa_catalog_table.Room.{HasSpare}
use Rattle.mesa_table_records.specs.Readied.{IsPartOf, part_in}
use Rattle.mesa_catalog_records.specs.Readied.{record_in}
use Rattle.mesa_catalog_records.proofs.Applies.{kind_of_fits, next_version, parts_made}
use Rattle.mesa_catalog_records.proofs.catalog_tables.CatalogTables.take_batch.Goals as goal

pub load-requires-clause-tables : goal.load-requires-clause-tables
load-requires-clause-tables c =
    let s = c.args.self.now in
    let fits = kind_of_fits (catalogue_of s) (record_in (ready_of.Publish c.args.version c.args.parts)) c.requires.ready.fits in
    let same = (next_version (catalogue_of s) c.args.version (map part_in c.args.parts.items) fits).0 in
    subst (AllByRecursion (IsTable c.args.version)) (sym c.deref_mut.ensures.value) (subst (λ version. AllByRecursion (IsTable version) s.tables.items) (sym same) c.requires.live_files.tables)

pub load-requires-clause-spare : goal.load-requires-clause-spare
load-requires-clause-spare c = subst (AllByRecursion HasSpare) (sym c.deref_mut.ensures.value) c.requires.ready.room.deltas

pub load-requires-clause-parts : goal.load-requires-clause-parts
load-requires-clause-parts c =
    let Goal : List Table → Type 0 = λ tables. AllByRecursion (λ (p : ReadyPart). IfSome (slice_get tables p.table) (λ t. IsPartOf t p)) c.args.parts.items in
    subst Goal (sym c.deref_mut.ensures.value) (parts_made c.args.self.now c.args.parts.items c.requires.ready.made)

pub returns-clause-applied : goal.returns-clause-applied
returns-clause-applied c =
    let s = c.args.self.now in
    let parts = map part_in c.args.parts.items in
    let fits = kind_of_fits (catalogue_of s) (record_in (ready_of.Publish c.args.version c.args.parts)) c.requires.ready.fits in
    let same = (next_version (catalogue_of s) c.args.version parts fits).0 in
    let items = with_items_is s.tables c.load.new.tables (omega arith) in
    let tables =
    ap (map (meta_of (s.next + 1))) items ∙ ap (λ version. map (meta_of (version + 1)) c.load.new.tables) (sym same) ∙ c.load.ensures.loaded
    ∙ (λ i. metas_loaded parts 0 (map (meta_of (same i)) (c.deref_mut.ensures.value i))) in
    λ i. record { tables = tables i; floor = s.floor; next = s.next + 1; run = s.run }

pub returns-clause-live_files : goal.returns-clause-live_files
returns-clause-live_files c =
    let s = c.args.self.now in
    let fits = kind_of_fits (catalogue_of s) (record_in (ready_of.Publish c.args.version c.args.parts)) c.requires.ready.fits in
    let next = next_version (catalogue_of s) c.args.version (map part_in c.args.parts.items) fits in
    let same = next.0 in
    let below = next.1 in
    let few = c.requires.live_files.few in
    let floor = c.requires.live_files.floor in
    let items = with_items_is s.tables c.load.new.tables (omega arith) in
    let count = ap length items in
    record {
      few = omega arith;
      most = omega arith;
      floor = omega arith;
      tables = subst (AllByRecursion (IsTable (s.next + 1))) (sym items) (subst (λ version. AllByRecursion (IsTable (version + 1)) c.load.new.tables) same c.load.ensures.tables);
    }

pub overflow_add-self : goal.overflow_add-self
overflow_add-self c =
    let s = c.args.self.now in
    let fits = kind_of_fits (catalogue_of s) (record_in (ready_of.Publish c.args.version c.args.parts)) c.requires.ready.fits in
    let next = next_version (catalogue_of s) c.args.version (map part_in c.args.parts.items) fits in
    let same = next.0 in
    let below = next.1 in
    omega arith
