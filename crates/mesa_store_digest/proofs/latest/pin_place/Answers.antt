use Rattle.std.proofs.Common.{◌≡◌, ◌+◌, ◌<◌, ◌≤◌, length, ap, ◌∙◌, sym, subst, Some, Err}
use Rattle.std.specs.Prelude.{IfSome, map}
use Rattle.std.specs.List.{AllByRecursion}
use Rattle.mesa_pick_files.proofs.mesa_catalog_records.TableMetas.{all_at}
use Rattle.mesa_filter.specs.Query.{IsQueryOf}
use Rattle.mesa_store_spec.specs.Catalog.{Delta, TableMeta, no_meta, meta_at}
use Rattle.mesa_store_spec.specs.Fitting.{deltas_of}
use Rattle.mesa_store_spec.specs.Shape.{IsShaped}
use Rattle.mesa_store_spec.specs.Planned.{planned}
use Rattle.mesa_store_digest.proofs.Newest.{can_be, file_reason, is_latest, is_named, newest_is, no_version, none_unsound, opening_quiet, opening_rose}
use Rattle.mesa_store_digest.proofs.latest.pin_place.Goals as goal
use Rattle.mesa_store_digest.specs.Latest.{HasLookReason, all_asked}
use Rattle.mesa_pick_files.proofs.Opened.{opened_fresh}
use Rattle.mesa_pick_files.proofs.There.{name_there, view_within}
use Rattle.mesa_pick_files.specs.Read.{IsPinnedFor, SomeUnsound, relation_read}
use Rattle.mesa_pick_files.specs.Files.{want_in}
use Rattle.mesa_validate.specs.Found.{columns_at}
use Rattle.mesa_pick_files.specs.mesa_schema.Changes.{epoch_of}
use Rattle.mesa_pick_files.specs.mesa_catalog_table.declared.relation.Relation.{Relation as Place}

pub query_of_all-requires-clause-table : goal.query_of_all-requires-clause-table
query_of_all-requires-clause-table g c = (name_there c.args.opened.now.catalog.catalogue c.requires.named.0 c.args.place c.requires.named.1).0

pub query_of_all-requires-clause-view : goal.query_of_all-requires-clause-view
query_of_all-requires-clause-view g c =
    let k = c.args.opened.now.catalog.catalogue in
    view_within (meta_at k c.args.place.table).lineage c.args.place.view (name_there k c.requires.named.0 c.args.place c.requires.named.1).1

pub table-table-requires : goal.table-table-requires
table-table-requires g c = (name_there c.args.opened.now.catalog.catalogue c.requires.named.0 c.args.place c.requires.named.1).0

pub open_files-requires-clause-table : goal.open_files-requires-clause-table
open_files-requires-clause-table g c κs within =
    let k = c.args.opened.now.catalog.catalogue in
    let o = c.requires.opened in
    let there = name_there k c.requires.named.0 c.args.place c.requires.named.1 in
    let is_catalog = c.catalogs_are_shaped.ensures c.args.opened.now.area o.bodies k o.reads.bytes o.reads.records in
    let shaped = all_at (IsShaped k.floor k.next) k.tables c.args.place.table no_meta is_catalog.tables there.0 in
    (k.next, c.table-table.ensures.few, c.table-table.ensures.held, subst (λ (u : TableMeta). AllByRecursion (λ (d : Delta). d.epoch ≤ epoch_of u.lineage) (deltas_of u)) (sym c.table-table.ensures.meta) shaped.epochs)

pub open_files-requires-clause-view : goal.open_files-requires-clause-view
open_files-requires-clause-view g c κs within =
    let k = c.args.opened.now.catalog.catalogue in
    let there = name_there k c.requires.named.0 c.args.place c.requires.named.1 in
    let here = view_within (meta_at k c.args.place.table).lineage c.args.place.view there.1 in
    subst (λ (u : TableMeta). IfSome c.in-Ok.found.relation.view (λ view. view < length u.lineage.views)) (sym c.table-table.ensures.meta)
    (subst (λ (p : Place). IfSome p.view (λ view. view < length (meta_at k c.args.place.table).lineage.views)) (sym c.in-Ok.ensures.relation) here)

pub returns-in-Ok-open_files-clause-latest : goal.returns-in-Ok-open_files-clause-latest
returns-in-Ok-open_files-clause-latest g c = λ name named.
    let k = c.args.opened.now.catalog.catalogue in
    let o = c.requires.opened in
    let f = c.in-Ok.found in
    let p = c.in-Ok-open_files.pinned in
    let bytes = g.D.Reader.FileReader.bytes in
    let faults = g.D.Reader.FileReader.faults in
    let story = g.D.Disk.story c.args.opened.now.disk in
    let is_catalog = c.catalogs_are_shaped.ensures c.args.opened.now.area o.bodies k o.reads.bytes o.reads.records in
    let at : f.relation ≡ c.args.place = c.in-Ok.ensures.relation in
    let newest : k.next ≡ f.query.version + 1 = newest_is k.next c.in-Some.version c.in-Some.ensures ∙ ap (λ n. n + 1) (sym c.in-Ok.ensures.version) in
    let files = subst (λ (u : TableMeta). IsPinnedFor bytes faults story.told u f p) (c.table-table.ensures.meta ∙ ap (λ (x : Place). meta_at k x.table) (sym at)) (c.in-Ok-open_files.ensures.files k.next c.table-table.ensures.held) in
    is_latest bytes faults story k name f is_catalog (named ∙ ap (λ (x : Place). Some x) (sym at)) newest p files
    (c.in-Ok.ensures.asked ∙ ap (λ (x : Place). all_asked (columns_at k x)) (sym at))
    (subst (λ (x : Place). IsQueryOf (columns_at k x) f.query) (sym at) c.in-Ok.ensures.sound)

pub returns-in-Ok-open_files-clause-fresh : goal.returns-in-Ok-open_files-clause-fresh
returns-in-Ok-open_files-clause-fresh g c =
    let k = c.args.opened.now.catalog.catalogue in
    let files = (c.in-Ok-open_files.ensures.files k.next c.table-table.ensures.held).files in
    opened_fresh g.D.Reader.FileReader.bytes g.D.Reader.FileReader.faults (g.D.Disk.story c.args.opened.now.disk).told files.wanted _ _ files.opened

pub returns-in-Err-clause-reason : goal.returns-in-Err-clause-reason
returns-in-Err-clause-reason g c = λ name named.
    let k = c.args.opened.now.catalog.catalogue in
    let o = c.requires.opened in
    let f = c.in-Ok.found in
    let faults = g.D.Reader.FileReader.faults in
    let old = g.D.Disk.story c.args.opened.now.disk in
    let new = g.D.Disk.story c.open_files.new.disk in
    let failed = c.in-Err.ensures in
    let is_catalog = c.catalogs_are_shaped.ensures c.args.opened.now.area o.bodies k o.reads.bytes o.reads.records in
    let at : f.relation ≡ c.args.place = c.in-Ok.ensures.relation in
    let newest : k.next ≡ f.query.version + 1 = newest_is k.next c.in-Some.version c.in-Some.ensures ∙ ap (λ n. n + 1) (sym c.in-Ok.ensures.version) in
    let meta = c.table-table.ensures.meta ∙ ap (λ (x : Place). meta_at k x.table) (sym at) in
    subst (HasLookReason old new k name) (sym c.from.ensures)
    (file_reason old new k name c.in-Err.error (can_be k name c.args.place c.in-Some.version named c.in-Some.ensures) (opening_rose c.open_files.result c.in-Err.error old new c.open_files.ensures.counted c.in-Err.is) failed.damage
    (λ d is rows start. none_unsound g.D.Reader.FileReader.bytes faults old k name f is_catalog (named ∙ ap (λ (x : Place). Some x) (sym at)) newest rows start
    (subst (λ (u : TableMeta). SomeUnsound old.told (map want_in (relation_read u.lineage f.relation.view (planned u f.query.version)))) meta (failed.unsound k.next c.table-table.ensures.held d is))))

pub returns-in-Err-clause-quiet : goal.returns-in-Err-clause-quiet
returns-in-Err-clause-quiet g c = λ other.
    opening_quiet c.open_files.result c.in-Err.error (g.D.Disk.story c.args.opened.now.disk) (g.D.Disk.story c.open_files.new.disk) c.open_files.ensures.counted c.in-Err.is (λ is. other (ap Err (c.from.ensures ∙ is)))

pub returns-in_default-clause-reason : goal.returns-in_default-clause-reason
returns-in_default-clause-reason g c = λ name named.
    let k = c.args.opened.now.catalog.catalogue in
    (is_named k name c.args.place named, no_version k.next c.in_default.ensures)

pub returns-in_default-query_of_all-clause-reason : goal.returns-in_default-query_of_all-clause-reason
returns-in_default-query_of_all-clause-reason g c = λ name named. can_be c.args.opened.now.catalog.catalogue name c.args.place c.in-Some.version named c.in-Some.ensures
