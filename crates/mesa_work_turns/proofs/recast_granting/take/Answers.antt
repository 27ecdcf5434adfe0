use Rattle.std.proofs.Common.{◌≡◌, ◌<◌, ◌≤◌, ◌+◌, [], ◌∷◌, ◌++◌, length, Bool, IsTrue, true, false, not, refl, sym, ◌∙◌, ap, subst, Ok, None}
use Rattle.std.specs.List.{AllByRecursion}
use Rattle.mesa_write_turns.specs.mesa_schema.Changes.{Lineage, epoch_of}
use Rattle.mesa_write_turns.specs.mesa_history_spec.Machine.{Claim, Recasts, recast_claim_of}
use Rattle.mesa_write_turns.specs.mesa_history_spec.Run.{First, Granted, Finished}
use Rattle.mesa_write_turns.specs.mesa_history_spec.Turns.{IsDue}
use Rattle.mesa_engine.specs.mesa_store_spec.Catalog.{Catalog, Delta, TableMeta, meta_at}
use Rattle.mesa_model.specs.Entry.{IsShort}
use Rattle.mesa_model.specs.declared.commands.Command.TheVariants as command
use Rattle.mesa_model.specs.declared.entries.Kind.TheVariants as kind
use Rattle.mesa_model.specs.declared.entries.Outcome.TheVariants as outcome
use Rattle.mesa_engine.specs.EngineState.{EngineState, books_of}
use Rattle.mesa_engine.specs.Vault.{IsVault, Starts, outset_of}
use Rattle.mesa_engine.specs.Failure.{cause_in}
use Rattle.mesa_lease.specs.Book.{granted}
use Rattle.mesa_engine.specs.Memory.{with_leases}
use Rattle.mesa_read_turns.specs.mesa_catalog_table.Meaning.{meta_of}
use Rattle.mesa_write_turns.specs.mesa_history_spec.Rows.{Rows, no_rows}
use Rattle.mesa_write_turns.specs.mesa_invariant_spec.Turns.{AnswersDisk, Shown, SomeRose, Takes, entry, faults_of}
use Rattle.mesa_write_turns.specs.mesa_invariant_spec.Invariant.{run_at}
use Rattle.mesa_write_turns.proofs.mesa_invariant_spec.Alike.{due_alike}
use Rattle.mesa_engine.specs.Engine.{Standing, starts_of}
use Rattle.mesa_work_turns.specs.Claims.{recast_claim_as}
use Rattle.mesa_work_turns.proofs.Grants.{next_there, shaped_at, tables_there, unopened_counts}
use Rattle.mesa_work_turns.proofs.GrantTurns.{IsGrant, IsNoGrant, is_grant, is_no_grant}
use Rattle.std.specs.Prelude.{IfSome}
use Rattle.mesa_engine.specs.mesa_store_spec.Fitting.{deltas_of}
use Rattle.mesa_write_turns.specs.mesa_schema.Recasts.{recast_checked}
use Rattle.mesa_read_turns.specs.mesa_pick_files.Ranges.{HoldsAll, IsDamagedRange, IsOfRange}
use Rattle.mesa_read_turns.specs.mesa_pick_files.declared.ranges.GatheredRanges.{GatheredRanges}
use Rattle.mesa_open_files.specs.Recasts.{AreRangesOf, claim_of_recast, recast_table}
use Rattle.mesa_open_files.specs.declared.recasting.Recast.{Recast}
use Rattle.mesa_open_files.specs.declared.recasting.RecastRange.{RecastRange}
use Rattle.mesa_work_turns.proofs.RecastRanges.{none_damaged, ranges_end, ranges_inputs, recast_bounded, recast_has_ranges}
use Rattle.mesa_work_turns.proofs.recast_granting.take.Goals as goal

pub gather_recast-gathered-requires-after_bounds : goal.gather_recast-gathered-requires-after_bounds
gather_recast-gathered-requires-after_bounds g c κs within =
    let i = c.engine.inside in
    let table = c.args.claimed.table in
    let there : table < length i.metadata.state.catalogue.tables = subst (λ (x : Standing). table < length x.state.catalogue.tables) (sym c.engine.view_is) c.requires.there in
    let shaped = shaped_at i.metadata.state.catalogue (c.engine.invariant.vault no_rows false (λ is. absurd cc)).shaped table there in
    let meta = c.table-table.ensures.meta ∙ ap (λ (k : Catalog). meta_at k table) c.catalog.ensures in
    (_, c.table-table.ensures.held, subst (λ (u : TableMeta). AllByRecursion (λ (d : Delta). d.epoch ≤ epoch_of u.lineage) (deltas_of u)) (sym meta) shaped.epochs)

-- ---- it is granted

abbrev starts : (g : _) → goal.After-pass g → Starts
starts g c = starts_of g.N.Naming.script g.N.Naming.start g.N.Naming.sound g.N.Naming.origin g.N.Naming.since g.N.Naming.counted g.N.Naming.at_start

runs : (g : _) (c : goal.After-pass g) → not c.engine.inside.log.printer.broken ≡ true
runs g c = ap (λ (x : Standing). x.shown.running) c.engine.view_is ∙ c.requires.runs

due_at : (g : _) (c : goal.After-pass g) → IsDue g.N.Naming.script (run_at g.N.Naming.script (g.N.Naming.start no_rows) c.engine.inside.log.history.items) c.args.who.session c.args.who.command (command.Recast c.requires.due.0) First
due_at g c =
    let N = g.N.Naming in
    subst (λ (x : Standing). IsDue N.script (run_at N.script (N.start no_rows) x.shown.history) c.args.who.session c.args.who.command (command.Recast c.requires.due.0) First) (sym c.engine.view_is) c.requires.due.1

claim_at : (g : _) (c : goal.After-pass g)
    → recast_claim_of (books_of no_rows c.engine.inside.metadata.state).bare (books_of no_rows c.engine.inside.metadata.state).machine c.position-at.result c.requires.due.0 ≡ Ok (recast_claim_as c.engine.inside.metadata.state c.args.claimed)
claim_at g c =
    let l = c.engine.inside.metadata.state in
    let words = c.requires.due.0 in
    let is : recast_claim_of (books_of no_rows l).bare (books_of no_rows l).machine (length c.engine.inside.log.history.items) words ≡ Ok (recast_claim_as l c.args.claimed) =
    subst (λ (x : Standing). recast_claim_of (books_of no_rows x.state).bare (books_of no_rows x.state).machine (length x.shown.history) words ≡ Ok (recast_claim_as x.state c.args.claimed)) (sym c.engine.view_is) c.requires.due.2 in
    subst (λ p. recast_claim_of (books_of no_rows l).bare (books_of no_rows l).machine p words ≡ Ok (recast_claim_as l c.args.claimed)) (sym c.position-at.ensures) is

is_short : (g : _) (c : goal.After-pass g) → IsShort (entry c.args.who.session c.args.who.command kind.Grant outcome.Stands c.clock-moment.result)
is_short g c = subst IsShort c.turn-turn.ensures.same c.turn-turn.ensures.short

granted_at : (g : _) (c : goal.After-pass g)
    → IsGrant g.K.Sink.held g.K.Sink.faults (starts g c) g.N.Naming.room g.N.Naming.sink_faults c.engine.inside.metadata c.lease-lease.new.metadata (g.D.Disk.story c.engine.inside.disk) (g.D.Disk.story c.gather_recast-gathered.new.disk)
    (record { history = c.engine.inside.log.history.items; running = not c.engine.inside.log.printer.broken; clock = (g.D.Disk.story c.engine.inside.disk).moment })
    (record { history = c.pass.new.self.history.items; running = not c.pass.new.self.printer.broken; clock = (g.D.Disk.story c.gather_recast-gathered.new.disk).moment })
    c.pass.new.self c.args.who.session c.args.who.command c.position-at.result (recast_claim_as c.engine.inside.metadata.state c.args.claimed)
granted_at g c =
    let N = g.N.Naming in
    let i = c.engine.inside in
    let s = c.args.who.session in
    let number = c.args.who.command in
    let asked = command.Recast c.requires.due.0 in
    let h = i.log.history.items in
    is_grant g.K.Sink.held g.K.Sink.faults (starts g c) N.room N.sink_faults i.metadata (g.D.Disk.story i.disk) (g.D.Disk.story c.gather_recast-gathered.new.disk) i.log c.pass.new.self c.engine.invariant c.gather_recast-gathered.ensures.unmoved s number asked refl c.clock-moment.result c.clock-moment.ensures (runs g c) c.position-at.result c.position-at.ensures
    (λ w. due_alike N.script (N.start no_rows) (N.start w) h s number asked First (N.alike w) refl (due_at g c)) c.pass.ensures.room
    (recast_claim_as i.metadata.state c.args.claimed) (claim_at g c) c.lease-lease.new.metadata c.lease-lease.ensures.granted c.in-Ok.ensures.counted (is_short g c)
    (c.pass.ensures.items ∙ ap (λ x. h ++ x ∷ []) c.turn-turn.ensures.same) c.pass.ensures.printer c.pass.ensures.refused

pub invariant_of-engine : goal.invariant_of-engine
invariant_of-engine g c = (granted_at g c).kept

-- the task as it is handed out
abbrev task_of : (g : _) → goal.After-pass g → Recast g.row.D-Reader.Denot
task_of g c =
    let claimed = c.args.claimed in
    let opened = c.in-Ok.field-0 in
    record { table = claimed.table; lease = c.lease-lease.result; epoch = opened.epoch; evolving = opened.evolving; keys = claimed.names.keys; values = claimed.names.values; ranges = opened.ranges; damage = opened.damage }

pub returns-in-Ok-clause-turn : goal.returns-in-Ok-clause-turn
returns-in-Ok-clause-turn g c =
    let N = g.N.Naming in
    let i = c.engine.inside in
    let who = c.args.who in
    let later = c.pass.new.self in
    let shown : Shown = record { history = later.history.items; running = not later.printer.broken; clock = (g.D.Disk.story c.gather_recast-gathered.new.disk).moment } in
    let epoch = c.in-Ok.ensures.epoch ∙ ap (λ (u : TableMeta). epoch_of u.lineage) (c.table-table.ensures.meta ∙ ap (λ (k : Catalog). meta_at k c.args.claimed.table) c.catalog.ensures) in
    let same : recast_claim_as i.metadata.state c.args.claimed ≡ claim_of_recast (task_of g c) =
    λ i. record { table = c.args.claimed.table; lease = sym c.lease-lease.ensures.number i; errand = Recasts (sym epoch i) (record { keys = c.args.claimed.names.keys; values = c.args.claimed.names.values }) } in
    subst (λ (x : Claim). Takes N.script (N.start no_rows) c.args.engine.now.shown shown who.session who.command kind.Grant (Granted x)) same
    (subst (λ (x : Standing). Takes N.script (N.start no_rows) x.shown shown who.session who.command kind.Grant (Granted (recast_claim_as i.metadata.state c.args.claimed))) c.engine.view_is (granted_at g c).takes)

-- the state behind it
abbrev leased : (g : _) → goal.After-pass g → EngineState
leased g c = (with_leases (granted c.args.claimed.table c.position-at.result c.engine.inside.metadata.state.leases) (c.position-at.result + 1) c.engine.inside.metadata).state

vault_behind : (g : _) (c : goal.After-pass g) (w : Rows) (b : Bool) → (IsTrue b → g.N.Naming.sound w)
    → IsVault (outset_of (starts g c) w) (g.N.Naming.origin w) b (leased g c) (g.D.Disk.story c.gather_recast-gathered.new.disk) (g.K.Sink.held c.pass.new.self.printer.sink) c.pass.new.self.history.items (not c.pass.new.self.printer.broken) c.pass.new.self.refused
vault_behind g c w b sound = (granted_at g c).behind w b sound

table_there : (g : _) (c : goal.After-pass g) → c.args.claimed.table < length c.engine.inside.metadata.state.catalogue.tables
table_there g c =
    subst (λ (x : Standing). c.args.claimed.table < length x.state.catalogue.tables) (sym c.engine.view_is) c.requires.there

-- its table is the catalogue's
meta_is : (g : _) (c : goal.After-pass g) → meta_of c.catalog.result.now.catalogue.next c.table-table.result.now ≡ meta_at c.engine.inside.metadata.state.catalogue c.args.claimed.table
meta_is g c = c.table-table.ensures.meta ∙ ap (λ (k : Catalog). meta_at k c.args.claimed.table) c.catalog.ensures

-- each range of the task is one of its table
ranges_of_meta : (g : _) (c : goal.After-pass g)
    → AllByRecursion (IsOfRange g.D.Reader.FileReader.bytes g.D.Reader.FileReader.faults (g.D.Disk.story c.engine.inside.disk).told (meta_at c.engine.inside.metadata.state.catalogue c.args.claimed.table)) c.in-Ok.field-0.ranges.items
ranges_of_meta g c =
    subst (λ (u : TableMeta). AllByRecursion (IsOfRange g.D.Reader.FileReader.bytes g.D.Reader.FileReader.faults (g.D.Disk.story c.engine.inside.disk).told u) c.in-Ok.field-0.ranges.items) (meta_is g c) (c.in-Ok.ensures.ranges _ c.table-table.ensures.held)

pub returns-in-Ok-clause-there : goal.returns-in-Ok-clause-there
returns-in-Ok-clause-there g c =
    let later = c.pass.new.self in
    subst (λ k. c.args.claimed.table < k)
    (sym (tables_there (outset_of (starts g c) no_rows) (g.N.Naming.origin no_rows) false (leased g c) (g.D.Disk.story c.gather_recast-gathered.new.disk) (g.K.Sink.held later.printer.sink) later.history.items (not later.printer.broken) later.refused (vault_behind g c no_rows false (λ z. absurd cc))))
    (table_there g c)

pub returns-in-Ok-clause-next : goal.returns-in-Ok-clause-next
returns-in-Ok-clause-next g c =
    let later = c.pass.new.self in
    let l = c.engine.inside.metadata.state in
    let is = (c.engine.invariant.vault no_rows false (λ z. absurd cc)).shaped in
    subst (λ k. AllByRecursion (λ (x : RecastRange g.row.D-Reader.Denot). x.to < k) c.in-Ok.field-0.ranges.items)
    (sym (next_there (outset_of (starts g c) no_rows) (g.N.Naming.origin no_rows) false (leased g c) (g.D.Disk.story c.gather_recast-gathered.new.disk) (g.K.Sink.held later.printer.sink) later.history.items (not later.printer.broken) later.refused (vault_behind g c no_rows false (λ z. absurd cc))))
    (ranges_end g.D.Reader.FileReader.bytes g.D.Reader.FileReader.faults (g.D.Disk.story c.engine.inside.disk).told l.catalogue.floor l.catalogue.next (meta_at l.catalogue c.args.claimed.table) (shaped_at l.catalogue is c.args.claimed.table (table_there g c)) c.in-Ok.field-0.ranges.items (ranges_of_meta g c))

pub returns-in-Ok-clause-task : goal.returns-in-Ok-clause-task
returns-in-Ok-clause-task g c =
    let t = task_of g c in
    let l = c.engine.inside.metadata.state in
    let now = meta_at l.catalogue t.table in
    let evolving : recast_table t ≡ now.lineage = c.in-Ok.ensures.evolving ∙ ap (λ (u : TableMeta). u.lineage) (meta_is g c) in
    let checked = subst (λ (x : Standing). recast_checked (meta_at x.state.catalogue c.args.claimed.table).lineage (record { keys = c.args.claimed.names.keys; values = c.args.claimed.names.values }) ≡ Ok tt) (sym c.engine.view_is) c.requires.checked in
    record {
      epoch = c.in-Ok.ensures.epoch ∙ ap epoch_of (sym c.in-Ok.ensures.evolving);
      allowed = ap (λ (x : Lineage). recast_checked x (record { keys = c.args.claimed.names.keys; values = c.args.claimed.names.values })) evolving ∙ checked;
      ranges = subst (λ (x : Lineage). AreRangesOf g.D.Reader.FileReader.bytes x t.ranges.items) (sym evolving)
          (ranges_inputs g.D.Reader.FileReader.bytes g.D.Reader.FileReader.faults (g.D.Disk.story c.engine.inside.disk).told now t.ranges.items (ranges_of_meta g c));
    }

pub returns-in-Ok-clause-lineage : goal.returns-in-Ok-clause-lineage
returns-in-Ok-clause-lineage g c =
    c.in-Ok.ensures.evolving ∙ ap (λ (u : TableMeta). u.lineage) (c.table-table.ensures.meta ∙ ap (λ (k : Catalog). meta_at k c.args.claimed.table) c.catalog.ensures)
    ∙ ap (λ (x : Standing). (meta_at x.state.catalogue c.args.claimed.table).lineage) c.engine.view_is

pub returns-in-Ok-clause-holds : goal.returns-in-Ok-clause-holds
returns-in-Ok-clause-holds g c none =
    subst (λ (x : Standing). HoldsAll c.in-Ok.field-0.ranges.items (meta_at x.state.catalogue c.args.claimed.table)) c.engine.view_is
    (subst (HoldsAll c.in-Ok.field-0.ranges.items) (meta_is g c) (c.in-Ok.ensures.holds _ c.table-table.ensures.held none))

was_open : (g : _) (c : goal.After-pass g) → c.engine.inside.metadata.state.closed ≡ None
was_open g c = ap (λ (x : Standing). x.state.closed) c.engine.view_is ∙ c.requires.opened

-- the files of its ranges, as the disk behind the turn tells them
told_ranges : (g : _) (c : goal.After-pass g)
    → AllByRecursion (IsOfRange g.D.Reader.FileReader.bytes g.D.Reader.FileReader.faults (g.D.Disk.story c.gather_recast-gathered.new.disk).told (meta_at c.engine.inside.metadata.state.catalogue c.args.claimed.table)) c.in-Ok.field-0.ranges.items
told_ranges g c =
    subst (λ i. AllByRecursion (IsOfRange g.D.Reader.FileReader.bytes g.D.Reader.FileReader.faults i (meta_at c.engine.inside.metadata.state.catalogue c.args.claimed.table)) c.in-Ok.field-0.ranges.items) (sym c.gather_recast-gathered.ensures.unmoved.told) (ranges_of_meta g c)

pub returns-in-Ok-clause-whole : goal.returns-in-Ok-clause-whole
returns-in-Ok-clause-whole g c w sound =
    let later = c.pass.new.self in
    let told = (g.D.Disk.story c.engine.inside.disk).told in
    let met = subst (λ (u : TableMeta). IfSome c.in-Ok.field-0.damage (IsDamagedRange told u)) (meta_is g c) (c.in-Ok.ensures.damaged _ c.table-table.ensures.held) in
    none_damaged (outset_of (starts g c) w) (g.N.Naming.origin w) (leased g c) (g.D.Disk.story c.gather_recast-gathered.new.disk) (g.K.Sink.held later.printer.sink) later.history.items (not later.printer.broken) later.refused (vault_behind g c w true (λ ok. sound)) (was_open g c)
    c.args.claimed.table (table_there g c) c.in-Ok.field-0.damage (subst (λ i. IfSome c.in-Ok.field-0.damage (IsDamagedRange i (meta_at c.engine.inside.metadata.state.catalogue c.args.claimed.table))) (sym c.gather_recast-gathered.ensures.unmoved.told) met)

pub returns-in-Ok-clause-bounded : goal.returns-in-Ok-clause-bounded
returns-in-Ok-clause-bounded g c w sound =
    let later = c.pass.new.self in
    recast_bounded (outset_of (starts g c) w) (g.N.Naming.origin w) (leased g c) (g.D.Disk.story c.gather_recast-gathered.new.disk) (g.K.Sink.held later.printer.sink) later.history.items (not later.printer.broken) later.refused (vault_behind g c w true (λ ok. sound)) (was_open g c)
    g.D.Reader.FileReader.bytes g.D.Reader.FileReader.faults (task_of g c) (table_there g c) (c.in-Ok.ensures.evolving ∙ ap (λ (u : TableMeta). u.lineage) (meta_is g c)) (told_ranges g c)

pub returns-in-Ok-clause-ranges : goal.returns-in-Ok-clause-ranges
returns-in-Ok-clause-ranges g c w sound =
    let later = c.pass.new.self in
    recast_has_ranges (outset_of (starts g c) w) (g.N.Naming.origin w) (leased g c) (g.D.Disk.story c.gather_recast-gathered.new.disk) (g.K.Sink.held later.printer.sink) later.history.items (not later.printer.broken) later.refused (vault_behind g c w true (λ ok. sound)) (was_open g c)
    g.D.Reader.FileReader.bytes g.D.Reader.FileReader.faults (task_of g c) (table_there g c) (c.in-Ok.ensures.evolving ∙ ap (λ (u : TableMeta). u.lineage) (meta_is g c)) (told_ranges g c)

pub returns-in-Ok-clause-disk : goal.returns-in-Ok-clause-disk
returns-in-Ok-clause-disk g c =
    let N = g.N.Naming in
    let new = g.D.Disk.story c.gather_recast-gathered.new.disk in
    let later = c.pass.new.self in
    let shown : Shown = record { history = later.history.items; running = not later.printer.broken; clock = new.moment } in
    subst (λ (x : Standing). AnswersDisk N.script (N.start no_rows) x.shown shown (SomeRose x.faults (faults_of new))) c.engine.view_is (granted_at g c).disk

-- ---- it isn't

ungranted_at : (g : _) (c : goal.After-fail g)
    → IsNoGrant g.K.Sink.held g.K.Sink.faults (starts_of g.N.Naming.script g.N.Naming.start g.N.Naming.sound g.N.Naming.origin g.N.Naming.since g.N.Naming.counted g.N.Naming.at_start) g.N.Naming.room g.N.Naming.sink_faults c.engine.inside.metadata (g.D.Disk.story c.engine.inside.disk) (g.D.Disk.story c.gather_recast-gathered.new.disk)
    (record { history = c.engine.inside.log.history.items; running = not c.engine.inside.log.printer.broken; clock = (g.D.Disk.story c.engine.inside.disk).moment })
    (record { history = c.fail.new.self.history.items; running = not c.fail.new.self.printer.broken; clock = (g.D.Disk.story c.gather_recast-gathered.new.disk).moment })
    c.fail.new.self c.args.who.session c.args.who.command
ungranted_at g c =
    let N = g.N.Naming in
    let n : Starts = starts_of N.script N.start N.sound N.origin N.since N.counted N.at_start in
    let i = c.engine.inside in
    let s = c.args.who.session in
    let number = c.args.who.command in
    let words = c.requires.due.0 in
    let asked = command.Recast words in
    let l = i.metadata.state in
    let h = i.log.history.items in
    let claim = recast_claim_as l c.args.claimed in
    let story = g.D.Disk.story i.disk in
    let new = g.D.Disk.story c.gather_recast-gathered.new.disk in
    let due : IsDue N.script (run_at N.script (N.start no_rows) h) s number asked First = subst (λ (x : Standing). IsDue N.script (run_at N.script (N.start no_rows) x.shown.history) s number asked First) (sym c.engine.view_is) c.requires.due.1 in
    let is : recast_claim_of (books_of no_rows l).bare (books_of no_rows l).machine (length h) words ≡ Ok claim =
    subst (λ (x : Standing). recast_claim_of (books_of no_rows x.state).bare (books_of no_rows x.state).machine (length x.shown.history) words ≡ Ok (recast_claim_as x.state c.args.claimed)) (sym c.engine.view_is) c.requires.due.2 in
    let open' = ap (λ (x : Standing). x.state.closed) c.engine.view_is ∙ c.requires.opened in
    let ran : not i.log.printer.broken ≡ true = ap (λ (x : Standing). x.shown.running) c.engine.view_is ∙ c.requires.runs in
    is_no_grant g.K.Sink.held g.K.Sink.faults n N.room N.sink_faults i.metadata story new i.log c.fail.new.self c.engine.invariant c.gather_recast-gathered.ensures.unmoved s number asked refl c.clock-moment.result c.clock-moment.ensures ran (length h) refl
    (λ w. due_alike N.script (N.start no_rows) (N.start w) h s number asked First (N.alike w) refl due) c.fail.ensures.room
    claim is open' c.in-Err.unopened (cause_in c.failure_of.result) c.failure_of.ensures (unopened_counts (GatheredRanges g.row.D-Reader.Denot) story new c.in-Err.unopened c.in-Err.ensures.counted) c.fail.ensures.short c.fail.ensures.items c.fail.ensures.told c.fail.ensures.refused

pub invariant_of-engine-in-Err : goal.invariant_of-engine-in-Err
invariant_of-engine-in-Err g c = (ungranted_at g c).kept

pub returns-in-Err-clause-turn : goal.returns-in-Err-clause-turn
returns-in-Err-clause-turn g c =
    let N = g.N.Naming in
    let later = c.fail.new.self in
    let shown : Shown = record { history = later.history.items; running = not later.printer.broken; clock = (g.D.Disk.story c.gather_recast-gathered.new.disk).moment } in
    subst (λ (x : Standing). Takes N.script (N.start no_rows) x.shown shown c.args.who.session c.args.who.command kind.Grant Finished) c.engine.view_is (ungranted_at g c).takes

pub returns-in-Err-clause-disk : goal.returns-in-Err-clause-disk
returns-in-Err-clause-disk g c =
    let N = g.N.Naming in
    let new = g.D.Disk.story c.gather_recast-gathered.new.disk in
    let later = c.fail.new.self in
    let shown : Shown = record { history = later.history.items; running = not later.printer.broken; clock = new.moment } in
    subst (λ (x : Standing). AnswersDisk N.script (N.start no_rows) x.shown shown (SomeRose x.faults (faults_of new))) c.engine.view_is (ungranted_at g c).disk
