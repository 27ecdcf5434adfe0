use Rattle.std.proofs.Common.{◌≡◌, ◌+◌, ◌++◌, ◌≤◌, length, refl, sym, ◌∙◌, ap, subst, arith, List}
use Rattle.mesa_disk.specs.Files.{files_of}
use Rattle.mesa_pick_files.specs.mesa_schema.Changes.{columns_of}
use Rattle.mesa_engine.specs.mesa_store_spec.Catalog.{Catalog, meta_at}
use Rattle.mesa_engine.specs.EngineState.{next_id}
use Rattle.mesa_file_records.specs.Adopted.{told_under}
use Rattle.mesa_catalog_table.specs.Meaning.{AreLoaded, IsTable, start_of_base, meta_of}
use Rattle.mesa_catalog_table.specs.declared.table.Loaded.{Loaded}
use Rattle.mesa_open_files.specs.Recasts.{AreRewritten, recast_in, recast_table}
use Rattle.mesa_file_records.specs.Recasts.{AreSinglesRewritten, files_taken, rewritten_under, singles_in}
use Rattle.mesa_file_records.proofs.Bringing.{AreThere, fewer_left}
use Rattle.mesa_file_records.proofs.TableRecasts.{epoch_fits, files_joined, its_base, its_singles, recast_is}
use Rattle.mesa_file_records.proofs.recasting.recast.Goals as goal

pub bring_base-requires-clause-room : goal.bring_base-requires-clause-room
bring_base-requires-clause-room g c κs within =
    let run = ap (λ (k : Catalog). k.run) c.catalog.ensures in
    omega (arith, run, c.from_vec-left.result.ok.0, c.from_vec-left.ensures.len)

-- the base's range is there
pub bring_base-requires-clause-there : goal.bring_base-requires-clause-there
bring_base-requires-clause-there g c κs within =
    let bytes = g.M.Made.bytes in
    let id_of = g.M.Made.id_of in
    let read = g.R.FileReader.bytes in
    let l = c.args.metadata.now.state in
    let t = c.args.task.now in
    let table = c.table-table.result.now in
    let meta = subst (λ (k : Catalog). meta_of k.next table ≡ meta_at k t.table) c.catalog-2.ensures c.table-table.ensures.meta in
    let held = subst (λ (k : Catalog). IsTable k.next table) c.catalog-2.ensures c.table-table.ensures.held in
    let ranges = c.from_vec-left.result.items in
    let are = subst (AreRewritten bytes id_of read (columns_of (recast_table t)) (recast_in t) t.ranges.items) (sym c.from_vec-left.ensures.items) c.requires.rewritten in
    its_base bytes id_of read l t table meta held ranges are c.requires.holds

pub bring_singles-requires-clause-room : goal.bring_singles-requires-clause-room
bring_singles-requires-clause-room g c κs within =
    let run = ap (λ (k : Catalog). k.run) c.catalog.ensures in
    let base = c.in_ok-base.ensures.brought in
    let few = fewer_left c.from_vec-left.result.items base.0 c.bring_base.new.left.items base.1 in
    omega (arith, run, few, base.3, c.from_vec-left.result.ok.0, c.from_vec-left.ensures.len)

-- and so are those of the singletons
pub bring_singles-requires-clause-there : goal.bring_singles-requires-clause-there
bring_singles-requires-clause-there g c κs within =
    let bytes = g.M.Made.bytes in
    let id_of = g.M.Made.id_of in
    let read = g.R.FileReader.bytes in
    let l = c.args.metadata.now.state in
    let t = c.args.task.now in
    let table = c.table-table.result.now in
    let meta = subst (λ (k : Catalog). meta_of k.next table ≡ meta_at k t.table) c.catalog-2.ensures c.table-table.ensures.meta in
    let held = subst (λ (k : Catalog). IsTable k.next table) c.catalog-2.ensures c.table-table.ensures.held in
    let ranges = c.from_vec-left.result.items in
    let are = subst (AreRewritten bytes id_of read (columns_of (recast_table t)) (recast_in t) t.ranges.items) (sym c.from_vec-left.ensures.items) c.requires.rewritten in
    let base = c.in_ok-base.ensures.brought in
    subst (λ (loaded : List Loaded). AreThere c.bring_base.new.left.items loaded) (sym c.deref.ensures.value)
    (its_singles bytes id_of read l t table meta held ranges are c.requires.holds c.number.result base.0 c.bring_base.new.left.items c.in_ok-base.base base.1 base.2)

pub bring_singles-requires-clause-rise : goal.bring_singles-requires-clause-rise
bring_singles-requires-clause-rise g c κs within =
    let table = c.table-table.result.now in
    let next = c.catalog-2.result.now.catalogue.next in
    (start_of_base table.base, next, subst (AreLoaded (start_of_base table.base) next) (sym c.deref.ensures.value) c.table-table.ensures.held.loaded)

pub overflow_add-epoch : goal.overflow_add-epoch
overflow_add-epoch g c =
    let small = epoch_fits g.R.FileReader.bytes c.args.metadata.now.state c.args.task.now c.requires.task c.requires.allowed c.requires.same in
    omega (arith, small)

pub returns : goal.returns
returns g c =
    let bytes = g.M.Made.bytes in
    let id_of = g.M.Made.id_of in
    let read = g.R.FileReader.bytes in
    let l = c.args.metadata.now.state in
    let t = c.args.task.now in
    let table = c.table-table.result.now in
    let meta = subst (λ (k : Catalog). meta_of k.next table ≡ meta_at k t.table) c.catalog-2.ensures c.table-table.ensures.meta in
    let held = subst (λ (k : Catalog). IsTable k.next table) c.catalog-2.ensures c.table-table.ensures.held in
    let ranges = c.from_vec-left.result.items in
    let are = subst (AreRewritten bytes id_of read (columns_of (recast_table t)) (recast_in t) t.ranges.items) (sym c.from_vec-left.ensures.items) c.requires.rewritten in
    let run = ap (λ (k : Catalog). k.run) c.catalog.ensures in
    let id = c.number.result in
    let first : id ≡ next_id l = omega (arith, run) in
    let few : length ranges ≤ 1200001 = omega (arith, c.from_vec-left.result.ok.0, c.from_vec-left.ensures.len) in
    let base = c.in_ok-base.ensures.brought in
    let singles = c.in_ok-singles.ensures.brought in
    let made = c.bring_singles.new.adopting.made in
    let are_singles =
    subst (λ (loaded : List Loaded). AreSinglesRewritten (t.epoch + 1) (singles_in loaded) (rewritten_under (id + length base.0) singles.0) c.in_ok-singles.singles) c.deref.ensures.value
    (subst (λ n. AreSinglesRewritten (t.epoch + 1) (singles_in c.deref.result.now) (rewritten_under n singles.0) c.in_ok-singles.singles) base.3 singles.2) in
    let files : files_of bytes made.items ≡ told_under bytes id (files_taken (base.0 ++ singles.0)) =
    singles.4
    ∙ (λ i. (base.4 ∙ (λ j. files_of bytes (c.new.ensures.items j) ++ told_under bytes id (files_taken base.0))) i ++ told_under bytes (base.3 i) (files_taken singles.0))
    ∙ files_joined bytes id base.0 singles.0 in
    recast_is bytes id_of read l t table meta held ranges are c.requires.holds id base.0 c.bring_base.new.left.items c.in_ok-base.base base.1 base.2 singles.0 c.bring_singles.new.left.items c.in_ok-singles.singles singles.1
    first are_singles c.requires.shaped c.requires.columns c.requires.recordable c.requires.task c.requires.there c.requires.allowed c.requires.same c.requires.given c.requires.room few
    c.in_ok-copy.field-0 c.in_ok-copy-2.field-0 c.in_ok-copy.ensures c.in_ok-copy-2.ensures _ refl files (omega (arith, made.ok.0, c.adopted-adopted.ensures.adopted, c.len-2.ensures))
