use Rattle.std.proofs.Common.{◌≡◌, inl, ◌<◌, ◌≤◌, length, not, true, false, sym, ◌∙◌, ap, subst, None}
use Rattle.std.specs.Prelude.{IfOk, IfSome}
use Rattle.std.specs.List.{AllByRecursion}
use Rattle.mesa_work_turns.specs.mesa_schema.Changes.{epoch_of}
use Rattle.mesa_engine.specs.mesa_store_spec.Catalog.{Catalog, Delta, TableMeta, meta_at}
use Rattle.mesa_engine.specs.mesa_store_spec.Fitting.{deltas_of}
use Rattle.mesa_work_turns.specs.mesa_pick_files.Ranges.{HoldsAll, IsDamagedRange, IsOfRange, IsOpenedRange}
use Rattle.mesa_work_turns.specs.mesa_catalog_table.Meaning.{meta_of}
use Rattle.mesa_work_turns.specs.mesa_history_spec.Rows.{no_rows}
use Rattle.mesa_engine.specs.Engine.{Standing, starts_of}
use Rattle.mesa_engine.specs.Vault.{Starts, outset_of}
use Rattle.mesa_engine.specs.Written.{written_at}
use Rattle.mesa_work_turns.specs.mesa_invariant_spec.Turns.{NoneFell, SomeRose, faults_of}
use Rattle.mesa_work_turns.specs.mesa_invariant_spec.Invariant.{faults_in}
use Rattle.mesa_engine.proofs.Turning.{unmoved_engine}
use Rattle.mesa_engine.proofs.Seeing.{ok_also}
use Rattle.mesa_engine.proofs.Lists.{all_so}
use Rattle.mesa_work_turns.proofs.Grants.{shaped_at}
use Rattle.mesa_work_turns.proofs.RecastRanges.{none_damaged, ranges_bounded, ranges_inputs, ranges_sourced}
use Rattle.mesa_recast_turns.specs.Rested.{HasFurther}
use Rattle.mesa_recast_turns.proofs.Further.{counted_rose, still_unpaid}
use Rattle.mesa_recast_turns.proofs.resting.open_more.Goals as goal

pub gather_more-requires-after_bounds : goal.gather_more-requires-after_bounds
gather_more-requires-after_bounds g c κs within =
    let i = c.engine.inside in
    let number = c.args.number in
    let there : number < length i.metadata.state.catalogue.tables = subst (λ (x : Standing). number < length x.state.catalogue.tables) (sym c.engine.view_is) c.requires.there in
    let shaped = shaped_at i.metadata.state.catalogue (c.engine.invariant.vault no_rows false (λ is. absurd cc)).shaped number there in
    let meta = c.table-table.ensures.meta ∙ ap (λ (k : Catalog). meta_at k number) c.catalog.ensures in
    (_, c.table-table.ensures.held, subst (λ (u : TableMeta). AllByRecursion (λ (d : Delta). d.epoch ≤ epoch_of u.lineage) (deltas_of u)) (sym meta) shaped.epochs)

pub invariant_of-engine : goal.invariant_of-engine
invariant_of-engine g c =
    let N = g.N.Naming in
    let n : Starts = starts_of N.script N.start N.sound N.origin N.since N.counted N.at_start in
    let i = c.engine.inside in
    unmoved_engine g.K.Sink.held g.K.Sink.faults n N.room N.sink_faults i.metadata (g.D.Disk.story i.disk) (g.D.Disk.story c.gather_more.new.disk) i.log c.gather_more.ensures.unmoved
    (record { faults = c.gather_more.ensures.counted.faults; reads = c.gather_more.ensures.counted.read_faults; rose = λ low is. absurd cc }) c.engine.invariant

pub returns-clause-faults : goal.returns-clause-faults
returns-clause-faults g c =
    let counted = c.gather_more.ensures.counted in
    subst (λ (x : Standing). NoneFell x.faults (faults_of (g.D.Disk.story c.gather_more.new.disk))) c.engine.view_is (record { calls = counted.faults; reads = counted.read_faults })

-- ---- what was opened

table_there : (g : _) (c : goal.After-gather_more g) → c.args.number < length c.engine.inside.metadata.state.catalogue.tables
table_there g c = subst (λ (x : Standing). c.args.number < length x.state.catalogue.tables) (sym c.engine.view_is) c.requires.there

was_open : (g : _) (c : goal.After-gather_more g) → c.engine.inside.metadata.state.closed ≡ None
was_open g c = ap (λ (x : Standing). x.state.closed) c.engine.view_is ∙ c.requires.opened

-- the table is the catalogue's
meta_is : (g : _) (c : goal.After-gather_more g) → meta_of c.catalog.result.now.catalogue.next c.table-table.result.now ≡ meta_at c.engine.inside.metadata.state.catalogue c.args.number
meta_is g c = c.table-table.ensures.meta ∙ ap (λ (k : Catalog). meta_at k c.args.number) c.catalog.ensures

pub returns-clause-rose : goal.returns-clause-rose
returns-clause-rose g c is =
    subst (λ (x : Standing). SomeRose x.faults (faults_of (g.D.Disk.story c.gather_more.new.disk))) c.engine.view_is
    (counted_rose (g.D.Disk.story c.engine.inside.disk) (g.D.Disk.story c.gather_more.new.disk) (rw is at c.gather_more.ensures.counted))

pub returns-clause-unpaid : goal.returns-clause-unpaid
returns-clause-unpaid g c is =
    let N = g.N.Naming in
    let n : Starts = starts_of N.script N.start N.sound N.origin N.since N.counted N.at_start in
    let i = c.engine.inside in
    let v = c.engine.invariant.vault in
    λ w below calls reads.
    still_unpaid N.counted (faults_in (outset_of n w) i.log.history.items) (g.D.Disk.story i.disk) (g.D.Disk.story c.gather_more.new.disk) c.gather_more.ensures.unmoved (v w false (λ is. absurd cc)).invariant.counts
    (rw is at c.gather_more.ensures.counted) below calls reads

pub returns-clause-more : goal.returns-clause-more
returns-clause-more g c =
    let N = g.N.Naming in
    let n : Starts = starts_of N.script N.start N.sound N.origin N.since N.counted N.at_start in
    let i = c.engine.inside in
    let l = i.metadata.state in
    let number = c.args.number in
    let read = g.D.Reader.FileReader.bytes in
    let faults = g.D.Reader.FileReader.faults in
    let story = g.D.Disk.story i.disk in
    let now = meta_at l.catalogue number in
    let more = c.gather_more.ensures.more _ c.table-table.ensures.held in
    let opened = subst (λ (u : TableMeta). AllByRecursion (IsOpenedRange read faults story.told u) more.0) (meta_is g c) more.2 in
    let are = all_so (IsOpenedRange read faults story.told now) (IsOfRange read faults story.told now) more.0 (λ x is. inl is) opened in
    subst (λ (x : Standing). HasFurther read (meta_at x.state.catalogue number).lineage N.sound (λ w. written_at N.script (N.start w) (N.origin w) x.shown.history number) c.args.ranges.now.items c.gather_more.new.ranges.items) c.engine.view_is
    (record {
      more = more.0;
      behind = more.1;
      of_table = ranges_inputs read faults story.told now more.0 are;
      bounded = λ w sound. ranges_bounded (outset_of n w) (n.origin w) l story (g.K.Sink.held i.log.printer.sink) i.log.history.items (not i.log.printer.broken) i.log.refused (c.engine.invariant.vault w true (λ ok. sound)) (was_open g c) read faults number (table_there g c) more.0 are;
      sourced = λ w sound. ranges_sourced (outset_of n w) (n.origin w) l story (g.K.Sink.held i.log.printer.sink) i.log.history.items (not i.log.printer.broken) i.log.refused (c.engine.invariant.vault w true (λ ok. sound)) (was_open g c) read faults number (table_there g c) more.0 are;
    })

pub returns-clause-holds : goal.returns-clause-holds
returns-clause-holds g c =
    subst (λ (x : Standing). IfOk c.gather_more.result (λ d. d ≡ None → HoldsAll c.gather_more.new.ranges.items (meta_at x.state.catalogue c.args.number))) c.engine.view_is
    (subst (λ (u : TableMeta). IfOk c.gather_more.result (λ d. d ≡ None → HoldsAll c.gather_more.new.ranges.items u)) (meta_is g c) (c.gather_more.ensures.holds _ c.table-table.ensures.held))

pub returns-clause-whole : goal.returns-clause-whole
returns-clause-whole g c w sound =
    let N = g.N.Naming in
    let n : Starts = starts_of N.script N.start N.sound N.origin N.since N.counted N.at_start in
    let i = c.engine.inside in
    let l = i.metadata.state in
    let story = g.D.Disk.story i.disk in
    ok_also c.gather_more.result (λ d. IfSome d (IsDamagedRange story.told (meta_at l.catalogue c.args.number))) (λ d. d ≡ None)
    (λ d met. none_damaged (outset_of n w) (n.origin w) l story (g.K.Sink.held i.log.printer.sink) i.log.history.items (not i.log.printer.broken) i.log.refused (c.engine.invariant.vault w true (λ ok. sound)) (was_open g c) c.args.number (table_there g c) d met)
    (subst (λ (u : TableMeta). IfOk c.gather_more.result (λ d. IfSome d (IsDamagedRange story.told u))) (meta_is g c) (c.gather_more.ensures.damaged _ c.table-table.ensures.held))
