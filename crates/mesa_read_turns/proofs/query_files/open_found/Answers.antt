use Rattle.std.proofs.Common.{◌≡◌, ◌∙◌, ◌<◌, ◌≤◌, ℕ, List, length, map, sym, ap, subst, IsTrue}
use Rattle.std.specs.Prelude.{IfSome, Option}
use Rattle.std.specs.List.{AllByRecursion}
use Rattle.mesa_read_turns.specs.Opening.{read_in}
use Rattle.mesa_pick_files.proofs.mesa_catalog_records.TableMetas.{all_at}
use Rattle.mesa_engine.specs.mesa_store_spec.Catalog.{Catalog, Delta, TableMeta, no_meta, meta_at}
use Rattle.mesa_engine.specs.mesa_store_spec.Fitting.{deltas_of}
use Rattle.mesa_engine.specs.mesa_store_spec.Shape.{IsCatalog, IsShaped}
use Rattle.mesa_disk.specs.Image.{Image}
use Rattle.mesa_engine.proofs.Seeing.{ok_also}
use Rattle.mesa_filter.specs.Filter.{are_within}
use Rattle.mesa_filter.specs.Query.{IsQueryOf, group_kinds}
use Rattle.mesa_engine.specs.mesa_store_spec.Planned.{planned}
use Rattle.mesa_pick_files.proofs.Contents.{columns_found}
use Rattle.mesa_pick_files.proofs.Ordered.{read_kinds}
use Rattle.mesa_pick_files.proofs.Reading.{columns_read}
use Rattle.mesa_pick_files.proofs.Telling.{pinned_is}
use Rattle.mesa_pick_files.proofs.There.{within_there}
use Rattle.mesa_pick_files.proofs.Unsound.{damage_also}
use Rattle.mesa_pick_files.specs.Read.{IsPinnedFor, SomeUnsound, relation_read}
use Rattle.mesa_pick_files.specs.Files.{want_in}
use Rattle.mesa_validate.proofs.ReadBy.{read_table}
use Rattle.mesa_validate.specs.Found.{columns_at}
use Rattle.mesa_validate.specs.declared.found.Found.{Found}
use Rattle.mesa_pick_files.specs.mesa_schema.Changes.{epoch_of}
use Rattle.mesa_columns.specs.Columns.{Columns}
use Rattle.mesa_open_files.specs.Pins.{IsPinned}
use Rattle.mesa_open_files.specs.declared.querying.Pinned.{Pinned}
use Rattle.mesa_read_turns.proofs.query_files.open_found.Goals as goal

-- what is read is of the table that was found
table_is : (k : Catalog) (found read : Found) → read ≡ read_in k found → read.relation.table ≡ found.relation.table
table_is k found read is = ap (λ (f : Found). f.relation.table) is ∙ read_table (meta_at k found.relation.table).lineage found

pub table-table-requires : goal.table-table-requires
table-table-requires g c = subst (λ n. n < length c.args.catalog.now.catalogue.tables) (sym (table_is c.args.catalog.now.catalogue c.args.found c.in-Ok.found c.in-Ok.ensures.read)) c.requires.there

pub open_files-requires-clause-table : goal.open_files-requires-clause-table
open_files-requires-clause-table g c κs within =
    let k = c.args.catalog.now.catalogue in
    let t = c.in-Ok.found.relation.table in
    let there = subst (λ n. n < length k.tables) (sym (table_is k c.args.found c.in-Ok.found c.in-Ok.ensures.read)) c.requires.there in
    let shaped = all_at (IsShaped k.floor k.next) k.tables t no_meta c.requires.shaped.tables there in
    (k.next, c.table-table.ensures.few, c.table-table.ensures.held, subst (λ (u : TableMeta). AllByRecursion (λ (d : Delta). d.epoch ≤ epoch_of u.lineage) (deltas_of u)) (sym c.table-table.ensures.meta) shaped.epochs)

pub open_files-requires-clause-view : goal.open_files-requires-clause-view
open_files-requires-clause-view g c κs within =
    subst (λ (u : TableMeta). IfSome c.in-Ok.found.relation.view (λ view. view < length u.lineage.views)) (sym c.table-table.ensures.meta) c.in-Ok.ensures.there

-- the files are those of what is read
its_files : {R : Type 0} (bytes : R → Option (List ℕ)) (faults : R → ℕ) (told : Option Image) (k : Catalog) (found read : Found) (p : Pinned R) (u : TableMeta) → u ≡ meta_at k read.relation.table → read ≡ read_in k found → IsPinnedFor bytes faults told u read p
    → IsPinnedFor bytes faults told (meta_at k found.relation.table) (read_in k found) p
its_files bytes faults told k found read p u meta is files =
    subst (λ n. IsPinnedFor bytes faults told (meta_at k n) (read_in k found) p) (table_is k found read is)
    (subst (λ (f : Found). IsPinnedFor bytes faults told (meta_at k read.relation.table) f p) is (subst (λ (x : TableMeta). IsPinnedFor bytes faults told x read p) meta files))

pub returns-in-Ok-clause-files : goal.returns-in-Ok-clause-files
returns-in-Ok-clause-files g c =
    let k = c.args.catalog.now.catalogue in
    let bytes = g.D.Reader.FileReader.bytes in
    let faults = g.D.Reader.FileReader.faults in
    let told = (g.D.Disk.story c.args.disk.now).told in
    ok_also c.open_files.result _ (IsPinnedFor bytes faults told (meta_at k c.args.found.relation.table) (read_in k c.args.found))
    (λ p files. its_files bytes faults told k c.args.found c.in-Ok.found p _ c.table-table.ensures.meta c.in-Ok.ensures.read files) (c.open_files.ensures.files k.next c.table-table.ensures.held)

pub returns-in-Ok-clause-pinned : goal.returns-in-Ok-clause-pinned
returns-in-Ok-clause-pinned g c =
    let k = c.args.catalog.now.catalogue in
    let f = c.in-Ok.found in
    let t = meta_at k f.relation.table in
    let bytes = g.D.Reader.FileReader.bytes in
    let faults = g.D.Reader.FileReader.faults in
    let told = (g.D.Disk.story c.args.disk.now).told in
    ok_also c.open_files.result _ (λ (p : Pinned g.row.D-Reader.Denot). (s : Columns) × IsPinned bytes s p)
    (λ p files. (
      columns_read t.lineage f.relation.view,
      pinned_is bytes faults told t f p (subst (λ (u : TableMeta). IsPinnedFor bytes faults told u f p) c.table-table.ensures.meta files) (within_there t.lineage f.relation.view c.in-Ok.ensures.there) (subst (λ (s : Columns). IsQueryOf s f.query) (columns_found k f.relation) c.in-Ok.ensures.sound),
    )) (c.open_files.ensures.files k.next c.table-table.ensures.held)

pub returns-in-Ok-clause-unsound : goal.returns-in-Ok-clause-unsound
returns-in-Ok-clause-unsound g c =
    let k = c.args.catalog.now.catalogue in
    let told = (g.D.Disk.story c.args.disk.now).told in
    let f = c.in-Ok.found in
    damage_also c.open_files.result _ _
    (λ unsound.
    subst (λ n. SomeUnsound told (map want_in (relation_read (meta_at k n).lineage (read_in k c.args.found).relation.view (planned (meta_at k n) (read_in k c.args.found).query.version)))) (table_is k c.args.found f c.in-Ok.ensures.read)
    (subst (λ (x : Found). SomeUnsound told (map want_in (relation_read (meta_at k f.relation.table).lineage x.relation.view (planned (meta_at k f.relation.table) x.query.version)))) c.in-Ok.ensures.read
    (subst (λ (u : TableMeta). SomeUnsound told (map want_in (relation_read u.lineage f.relation.view (planned u f.query.version)))) c.table-table.ensures.meta unsound)))
    (c.open_files.ensures.unsound k.next c.table-table.ensures.held)

-- its group columns keep their types
kinds_stay : (k : Catalog) (found : Found) → IsCatalog k → found.relation.table < length k.tables → IfSome found.relation.view (λ view. view < length (meta_at k found.relation.table).lineage.views) → IsQueryOf (columns_at k found.relation) found.query
    → IsTrue (are_within found.query.kinds found.query.asked.terms) → group_kinds (read_in k found).query ≡ group_kinds found.query
kinds_stay k found shaped there view query within =
    let t = meta_at k found.relation.table in
    read_kinds t.lineage found (record {
      query = subst (λ (s : Columns). IsQueryOf s found.query) (columns_found k found.relation) query;
      within = within;
      views = (all_at (IsShaped k.floor k.next) k.tables found.relation.table no_meta shaped.tables there).lineage.views;
      there = within_there t.lineage found.relation.view view;
    })

pub returns-in-Ok-clause-kinds : goal.returns-in-Ok-clause-kinds
returns-in-Ok-clause-kinds g c = kinds_stay c.args.catalog.now.catalogue c.args.found c.requires.shaped c.requires.there c.requires.view c.requires.sound c.ordered.ensures.within

pub returns-in-Err-clause-kinds : goal.returns-in-Err-clause-kinds
returns-in-Err-clause-kinds g c = kinds_stay c.args.catalog.now.catalogue c.args.found c.requires.shaped c.requires.there c.requires.view c.requires.sound c.ordered.ensures.within
