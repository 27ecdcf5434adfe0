use Rattle.std.proofs.Common.{◌≡◌, ◌<◌, ◌≤◌, ◌+◌, ◌-◌, [], ◌∷◌, ◌++◌, length, Bool, IsTrue, true, false, not, refl, sym, ◌∙◌, ap, subst, arith, Ok, None, Some}
use Rattle.std.specs.List.{AllByRecursion}
use Rattle.mesa_write_turns.specs.mesa_schema.Changes.{Lineage, epoch_of}
use Rattle.mesa_span.specs.Ranges.{base_before}
use Rattle.mesa_span.specs.Work.{next_work}
use Rattle.mesa_write_turns.specs.mesa_history_spec.Machine.{Claim, Merges, claim_of}
use Rattle.mesa_write_turns.specs.mesa_history_spec.Run.{First, Granted, Finished}
use Rattle.mesa_write_turns.specs.mesa_history_spec.Turns.{IsDue}
use Rattle.mesa_engine.specs.mesa_store_spec.Catalog.{Catalog, Delta, TableMeta, ranges_of, meta_at}
use Rattle.mesa_engine.specs.mesa_store_spec.Fitting.{deltas_of, may_be_work}
use Rattle.mesa_model.specs.Entry.{IsShort}
use Rattle.mesa_model.specs.declared.commands.Command.TheVariants as command
use Rattle.mesa_model.specs.declared.entries.Kind.TheVariants as kind
use Rattle.mesa_model.specs.declared.entries.Outcome.TheVariants as outcome
use Rattle.mesa_engine.specs.EngineState.{EngineState, books_of}
use Rattle.mesa_engine.proofs.mesa_store_spec.Plans.{due_work_fits}
use Rattle.mesa_engine.specs.mesa_store_spec.Moves.{first_of, is_base, last_of}
use Rattle.mesa_engine.specs.Vault.{IsVault, Starts, outset_of}
use Rattle.mesa_copy.specs.mesa_compact.Bounded.{IsBounded}
use Rattle.mesa_engine.specs.Failure.{cause_in}
use Rattle.mesa_read_turns.specs.mesa_pick_files.Gathered.{IsGathered, task_with}
use Rattle.mesa_read_turns.specs.mesa_pick_files.declared.gathering.Gathered.{Gathered}
use Rattle.mesa_lease.specs.Book.{granted}
use Rattle.mesa_engine.specs.Memory.{with_leases}
use Rattle.mesa_read_turns.specs.mesa_catalog_table.Meaning.{meta_of}
use Rattle.mesa_write_turns.specs.mesa_history_spec.Rows.{Rows, no_rows}
use Rattle.mesa_write_turns.specs.mesa_file_records.Finished.{HasRange}
use Rattle.mesa_open_files.specs.Tasks.{IsTask, claim_in}
use Rattle.mesa_open_files.specs.declared.merging.Task.{Task}
use Rattle.mesa_write_turns.specs.mesa_invariant_spec.Turns.{AnswersDisk, Shown, SomeRose, Takes, entry, faults_of}
use Rattle.mesa_write_turns.specs.mesa_invariant_spec.Invariant.{run_at}
use Rattle.mesa_write_turns.proofs.mesa_invariant_spec.Alike.{due_alike}
use Rattle.mesa_engine.specs.Engine.{Standing, starts_of}
use Rattle.mesa_work_turns.specs.Claims.{claim_as}
use Rattle.mesa_engine.specs.Written.{written_at}
use Rattle.mesa_work_turns.proofs.Bounded.{is_bounded}
use Rattle.mesa_work_turns.proofs.Claims.{work_ends}
use Rattle.mesa_work_turns.proofs.Ranges.{has_no_damage, has_range}
use Rattle.mesa_work_turns.proofs.Grants.{next_there, shaped_at, tables_there, unopened_counts}
use Rattle.mesa_work_turns.proofs.GrantTurns.{IsGrant, IsNoGrant, is_grant, is_no_grant}
use Rattle.mesa_work_turns.proofs.granting.take.Goals as goal

pub gather-gathered-requires-after_bounds : goal.gather-gathered-requires-after_bounds
gather-gathered-requires-after_bounds g c κs within =
    let i = c.engine.inside in
    let table = c.args.claimed.table in
    let there : table < length i.metadata.state.catalogue.tables = subst (λ (x : Standing). table < length x.state.catalogue.tables) (sym c.engine.view_is) c.requires.there in
    let shaped = shaped_at i.metadata.state.catalogue (c.engine.invariant.vault no_rows false (λ is. absurd cc)).shaped table there in
    let meta = c.table-table.ensures.meta ∙ ap (λ (k : Catalog). meta_at k table) c.catalog.ensures in
    (_, c.table-table.ensures.few, c.table-table.ensures.held, subst (λ (u : TableMeta). AllByRecursion (λ (d : Delta). d.epoch ≤ epoch_of u.lineage) (deltas_of u)) (sym meta) shaped.epochs)

-- ---- it is granted

abbrev starts : (g : _) → goal.After-pass g → Starts
starts g c = starts_of g.N.Naming.script g.N.Naming.start g.N.Naming.sound g.N.Naming.origin g.N.Naming.since g.N.Naming.counted g.N.Naming.at_start

runs : (g : _) (c : goal.After-pass g) → not c.engine.inside.log.printer.broken ≡ true
runs g c = ap (λ (x : Standing). x.shown.running) c.engine.view_is ∙ c.requires.runs

due_at : (g : _) (c : goal.After-pass g) → IsDue g.N.Naming.script (run_at g.N.Naming.script (g.N.Naming.start no_rows) c.engine.inside.log.history.items) c.args.who.session c.args.who.command (command.Work c.requires.due.0) First
due_at g c =
    let N = g.N.Naming in
    subst (λ (x : Standing). IsDue N.script (run_at N.script (N.start no_rows) x.shown.history) c.args.who.session c.args.who.command (command.Work c.requires.due.0) First) (sym c.engine.view_is) c.requires.due.1

claim_at : (g : _) (c : goal.After-pass g)
    → claim_of (books_of no_rows c.engine.inside.metadata.state).bare (books_of no_rows c.engine.inside.metadata.state).machine c.position-at.result c.requires.due.0.table ≡ Ok (claim_as c.engine.inside.metadata.state c.args.claimed)
claim_at g c =
    let l = c.engine.inside.metadata.state in
    let words = c.requires.due.0 in
    let is : claim_of (books_of no_rows l).bare (books_of no_rows l).machine (length c.engine.inside.log.history.items) words.table ≡ Ok (claim_as l c.args.claimed) =
    subst (λ (x : Standing). claim_of (books_of no_rows x.state).bare (books_of no_rows x.state).machine (length x.shown.history) words.table ≡ Ok (claim_as x.state c.args.claimed)) (sym c.engine.view_is) c.requires.due.2 in
    subst (λ p. claim_of (books_of no_rows l).bare (books_of no_rows l).machine p words.table ≡ Ok (claim_as l c.args.claimed)) (sym c.position-at.ensures) is

is_short : (g : _) (c : goal.After-pass g) → IsShort (entry c.args.who.session c.args.who.command kind.Grant outcome.Stands c.clock-moment.result)
is_short g c = subst IsShort c.turn-turn.ensures.same c.turn-turn.ensures.short

granted_at : (g : _) (c : goal.After-pass g)
    → IsGrant g.K.Sink.held g.K.Sink.faults (starts g c) g.N.Naming.room g.N.Naming.sink_faults c.engine.inside.metadata c.lease-lease.new.metadata (g.D.Disk.story c.engine.inside.disk) (g.D.Disk.story c.gather-gathered.new.disk)
    (record { history = c.engine.inside.log.history.items; running = not c.engine.inside.log.printer.broken; clock = (g.D.Disk.story c.engine.inside.disk).moment })
    (record { history = c.pass.new.self.history.items; running = not c.pass.new.self.printer.broken; clock = (g.D.Disk.story c.gather-gathered.new.disk).moment })
    c.pass.new.self c.args.who.session c.args.who.command c.position-at.result (claim_as c.engine.inside.metadata.state c.args.claimed)
granted_at g c =
    let N = g.N.Naming in
    let i = c.engine.inside in
    let s = c.args.who.session in
    let number = c.args.who.command in
    let asked = command.Work c.requires.due.0 in
    let h = i.log.history.items in
    is_grant g.K.Sink.held g.K.Sink.faults (starts g c) N.room N.sink_faults i.metadata (g.D.Disk.story i.disk) (g.D.Disk.story c.gather-gathered.new.disk) i.log c.pass.new.self c.engine.invariant c.gather-gathered.ensures.unmoved s number asked refl c.clock-moment.result c.clock-moment.ensures (runs g c) c.position-at.result c.position-at.ensures
    (λ w. due_alike N.script (N.start no_rows) (N.start w) h s number asked First (N.alike w) refl (due_at g c)) c.pass.ensures.room
    (claim_as i.metadata.state c.args.claimed) (claim_at g c) c.lease-lease.new.metadata c.lease-lease.ensures.granted c.in-Ok.ensures.counted (is_short g c)
    (c.pass.ensures.items ∙ ap (λ x. h ++ x ∷ []) c.turn-turn.ensures.same) c.pass.ensures.printer c.pass.ensures.refused

pub invariant_of-engine : goal.invariant_of-engine
invariant_of-engine g c = (granted_at g c).kept

-- the task as it is handed out
abbrev task_of : (g : _) → goal.After-pass g → Task g.row.D-Reader.Denot
task_of g c = task_with c.args.claimed.table c.args.claimed.work c.lease-lease.result c.in-Ok.field-0

pub returns-in-Ok-clause-turn : goal.returns-in-Ok-clause-turn
returns-in-Ok-clause-turn g c =
    let N = g.N.Naming in
    let i = c.engine.inside in
    let who = c.args.who in
    let later = c.pass.new.self in
    let shown : Shown = record { history = later.history.items; running = not later.printer.broken; clock = (g.D.Disk.story c.gather-gathered.new.disk).moment } in
    let same : claim_as i.metadata.state c.args.claimed ≡ claim_in (task_of g c) = λ i. record { table = c.args.claimed.table; lease = sym c.lease-lease.ensures.number i; errand = Merges c.args.claimed.work } in
    subst (λ (x : Claim). Takes N.script (N.start no_rows) c.args.engine.now.shown shown who.session who.command kind.Grant (Granted x)) same
    (subst (λ (x : Standing). Takes N.script (N.start no_rows) x.shown shown who.session who.command kind.Grant (Granted (claim_as i.metadata.state c.args.claimed))) c.engine.view_is (granted_at g c).takes)

-- the state behind it
abbrev leased : (g : _) → goal.After-pass g → EngineState
leased g c = (with_leases (granted c.args.claimed.table c.position-at.result c.engine.inside.metadata.state.leases) (c.position-at.result + 1) c.engine.inside.metadata).state

vault_behind : (g : _) (c : goal.After-pass g) (w : Rows) (b : Bool) → (IsTrue b → g.N.Naming.sound w)
    → IsVault (outset_of (starts g c) w) (g.N.Naming.origin w) b (leased g c) (g.D.Disk.story c.gather-gathered.new.disk) (g.K.Sink.held c.pass.new.self.printer.sink) c.pass.new.self.history.items (not c.pass.new.self.printer.broken) c.pass.new.self.refused
vault_behind g c w b sound = (granted_at g c).behind w b sound

table_there : (g : _) (c : goal.After-pass g) → c.args.claimed.table < length c.engine.inside.metadata.state.catalogue.tables
table_there g c =
    subst (λ (x : Standing). c.args.claimed.table < length x.state.catalogue.tables) (sym c.engine.view_is) c.requires.there

-- its table is the catalogue's
meta_is : (g : _) (c : goal.After-pass g) → meta_of c.catalog.result.now.catalogue.next c.table-table.result.now ≡ meta_at c.engine.inside.metadata.state.catalogue c.args.claimed.table
meta_is g c = c.table-table.ensures.meta ∙ ap (λ (k : Catalog). meta_at k c.args.claimed.table) c.catalog.ensures

-- its work is one that is due
work_due : (g : _) (c : goal.After-pass g)
    → may_be_work c.engine.inside.metadata.state.catalogue (meta_at c.engine.inside.metadata.state.catalogue c.args.claimed.table) (is_base c.args.claimed.work) (first_of c.args.claimed.work) (last_of c.args.claimed.work) ≡ true
work_due g c =
    let l = c.engine.inside.metadata.state in
    let next : next_work (ranges_of (meta_at l.catalogue c.args.claimed.table)) (meta_at l.catalogue c.args.claimed.table).oldest (base_before l.catalogue.next) ≡ Some c.args.claimed.work =
    subst (λ (x : Standing). next_work (ranges_of (meta_at x.state.catalogue c.args.claimed.table)) (meta_at x.state.catalogue c.args.claimed.table).oldest (base_before x.state.catalogue.next) ≡ Some c.args.claimed.work) (sym c.engine.view_is) c.requires.next in
    due_work_fits l.catalogue (meta_at l.catalogue c.args.claimed.table) (meta_at l.catalogue c.args.claimed.table).oldest l.catalogue.next c.args.claimed.work next (omega arith) (omega arith)

pub returns-in-Ok-clause-there : goal.returns-in-Ok-clause-there
returns-in-Ok-clause-there g c =
    let later = c.pass.new.self in
    subst (λ k. c.args.claimed.table < k)
    (sym (tables_there (outset_of (starts g c) no_rows) (g.N.Naming.origin no_rows) false (leased g c) (g.D.Disk.story c.gather-gathered.new.disk) (g.K.Sink.held later.printer.sink) later.history.items (not later.printer.broken) later.refused (vault_behind g c no_rows false (λ z. absurd cc))))
    (table_there g c)

pub returns-in-Ok-clause-next : goal.returns-in-Ok-clause-next
returns-in-Ok-clause-next g c =
    let later = c.pass.new.self in
    let l = c.engine.inside.metadata.state in
    let t = task_of g c in
    let is = (c.engine.invariant.vault no_rows false (λ z. absurd cc)).shaped in
    subst (λ k. last_of t.work < k)
    (sym (next_there (outset_of (starts g c) no_rows) (g.N.Naming.origin no_rows) false (leased g c) (g.D.Disk.story c.gather-gathered.new.disk) (g.K.Sink.held later.printer.sink) later.history.items (not later.printer.broken) later.refused (vault_behind g c no_rows false (λ z. absurd cc))))
    (work_ends l.catalogue (meta_at l.catalogue t.table) t.work (shaped_at l.catalogue is t.table (table_there g c)) (work_due g c))

is_task : (g : _) (c : goal.After-pass g) → IsTask g.D.Reader.FileReader.bytes (meta_at c.engine.inside.metadata.state.catalogue c.args.claimed.table).lineage (task_of g c)
is_task g c =
    subst (λ (x : Lineage). IsTask g.D.Reader.FileReader.bytes x (task_of g c)) (ap (λ (u : TableMeta). u.lineage) (meta_is g c)) (c.in-Ok.ensures.task c.args.claimed.table c.lease-lease.result)

pub returns-in-Ok-clause-task : goal.returns-in-Ok-clause-task
returns-in-Ok-clause-task g c = subst (λ (x : Standing). IsTask g.D.Reader.FileReader.bytes (meta_at x.state.catalogue c.args.claimed.table).lineage (task_of g c)) c.engine.view_is (is_task g c)

-- its files, as the disk behind the turn tells them
gathered : (g : _) (c : goal.After-pass g)
    → IsGathered g.D.Reader.FileReader.bytes g.D.Reader.FileReader.faults (g.D.Disk.story c.gather-gathered.new.disk).told (meta_at c.engine.inside.metadata.state.catalogue c.args.claimed.table) c.args.claimed.work (task_of g c)
gathered g c =
    let bytes = g.D.Reader.FileReader.bytes in
    let faults = g.D.Reader.FileReader.faults in
    let told = (g.D.Disk.story c.engine.inside.disk).told in
    let u = meta_at c.engine.inside.metadata.state.catalogue c.args.claimed.table in
    let work = c.args.claimed.work in
    let t = task_of g c in
    let files = c.in-Ok.ensures.files _ c.table-table.ensures.held c.args.claimed.table c.lease-lease.result in
    subst (λ i. IsGathered bytes faults i u work t) (sym c.gather-gathered.ensures.unmoved.told) (subst (λ (x : TableMeta). IsGathered bytes faults told x work t) (meta_is g c) files)

was_open : (g : _) (c : goal.After-pass g) → c.engine.inside.metadata.state.closed ≡ None
was_open g c = ap (λ (x : Standing). x.state.closed) c.engine.view_is ∙ c.requires.opened

pub returns-in-Ok-clause-whole : goal.returns-in-Ok-clause-whole
returns-in-Ok-clause-whole g c w sound =
    let later = c.pass.new.self in
    has_no_damage (outset_of (starts g c) w) (g.N.Naming.origin w) (leased g c) (g.D.Disk.story c.gather-gathered.new.disk) (g.K.Sink.held later.printer.sink) later.history.items (not later.printer.broken) later.refused (vault_behind g c w true (λ ok. sound)) (was_open g c)
    g.D.Reader.FileReader.bytes g.D.Reader.FileReader.faults (task_of g c) (table_there g c) (work_due g c) (is_task g c) (gathered g c)

pub returns-in-Ok-clause-bounded : goal.returns-in-Ok-clause-bounded
returns-in-Ok-clause-bounded g c w sound =
    let later = c.pass.new.self in
    let t = task_of g c in
    subst (λ (x : Standing). IsBounded g.D.Reader.FileReader.bytes (meta_at x.state.catalogue t.table).lineage t) c.engine.view_is
    (is_bounded (outset_of (starts g c) w) (g.N.Naming.origin w) (leased g c) (g.D.Disk.story c.gather-gathered.new.disk) (g.K.Sink.held later.printer.sink) later.history.items (not later.printer.broken) later.refused (vault_behind g c w true (λ ok. sound)) (was_open g c)
    g.D.Reader.FileReader.bytes g.D.Reader.FileReader.faults t (table_there g c) (gathered g c) (returns-in-Ok-clause-whole g c w sound))

pub returns-in-Ok-clause-range : goal.returns-in-Ok-clause-range
returns-in-Ok-clause-range g c w sound =
    let N = g.N.Naming in
    let later = c.pass.new.self in
    let bytes = g.D.Reader.FileReader.bytes in
    let t = task_of g c in
    subst (λ (x : Standing). HasRange bytes (meta_at x.state.catalogue t.table).lineage t (written_at N.script (N.start w) (N.origin w) later.history.items t.table)) c.engine.view_is
    (has_range (outset_of (starts g c) w) (N.origin w) (leased g c) (g.D.Disk.story c.gather-gathered.new.disk) (g.K.Sink.held later.printer.sink) later.history.items (not later.printer.broken) later.refused (vault_behind g c w true (λ ok. sound)) (was_open g c)
    bytes g.D.Reader.FileReader.faults t (table_there g c) (work_due g c) (is_task g c) (gathered g c))

pub returns-in-Ok-clause-spare : goal.returns-in-Ok-clause-spare
returns-in-Ok-clause-spare g c = c.in-Ok.ensures.spare c.args.claimed.table c.lease-lease.result

pub returns-in-Ok-clause-disk : goal.returns-in-Ok-clause-disk
returns-in-Ok-clause-disk g c =
    let N = g.N.Naming in
    let new = g.D.Disk.story c.gather-gathered.new.disk in
    let later = c.pass.new.self in
    let shown : Shown = record { history = later.history.items; running = not later.printer.broken; clock = new.moment } in
    subst (λ (x : Standing). AnswersDisk N.script (N.start no_rows) x.shown shown (SomeRose x.faults (faults_of new))) c.engine.view_is (granted_at g c).disk

-- ---- it isn't

ungranted_at : (g : _) (c : goal.After-fail g)
    → IsNoGrant g.K.Sink.held g.K.Sink.faults (starts_of g.N.Naming.script g.N.Naming.start g.N.Naming.sound g.N.Naming.origin g.N.Naming.since g.N.Naming.counted g.N.Naming.at_start) g.N.Naming.room g.N.Naming.sink_faults c.engine.inside.metadata (g.D.Disk.story c.engine.inside.disk) (g.D.Disk.story c.gather-gathered.new.disk)
    (record { history = c.engine.inside.log.history.items; running = not c.engine.inside.log.printer.broken; clock = (g.D.Disk.story c.engine.inside.disk).moment })
    (record { history = c.fail.new.self.history.items; running = not c.fail.new.self.printer.broken; clock = (g.D.Disk.story c.gather-gathered.new.disk).moment })
    c.fail.new.self c.args.who.session c.args.who.command
ungranted_at g c =
    let N = g.N.Naming in
    let n : Starts = starts_of N.script N.start N.sound N.origin N.since N.counted N.at_start in
    let i = c.engine.inside in
    let s = c.args.who.session in
    let number = c.args.who.command in
    let words = c.requires.due.0 in
    let asked = command.Work words in
    let l = i.metadata.state in
    let h = i.log.history.items in
    let claim = claim_as l c.args.claimed in
    let story = g.D.Disk.story i.disk in
    let new = g.D.Disk.story c.gather-gathered.new.disk in
    let due : IsDue N.script (run_at N.script (N.start no_rows) h) s number asked First = subst (λ (x : Standing). IsDue N.script (run_at N.script (N.start no_rows) x.shown.history) s number asked First) (sym c.engine.view_is) c.requires.due.1 in
    let is : claim_of (books_of no_rows l).bare (books_of no_rows l).machine (length h) words.table ≡ Ok claim =
    subst (λ (x : Standing). claim_of (books_of no_rows x.state).bare (books_of no_rows x.state).machine (length x.shown.history) words.table ≡ Ok (claim_as x.state c.args.claimed)) (sym c.engine.view_is) c.requires.due.2 in
    let open' = ap (λ (x : Standing). x.state.closed) c.engine.view_is ∙ c.requires.opened in
    let ran : not i.log.printer.broken ≡ true = ap (λ (x : Standing). x.shown.running) c.engine.view_is ∙ c.requires.runs in
    is_no_grant g.K.Sink.held g.K.Sink.faults n N.room N.sink_faults i.metadata story new i.log c.fail.new.self c.engine.invariant c.gather-gathered.ensures.unmoved s number asked refl c.clock-moment.result c.clock-moment.ensures ran (length h) refl
    (λ w. due_alike N.script (N.start no_rows) (N.start w) h s number asked First (N.alike w) refl due) c.fail.ensures.room
    claim is open' c.in-Err.unopened (cause_in c.failure_of.result) c.failure_of.ensures (unopened_counts (Gathered g.row.D-Reader.Denot) story new c.in-Err.unopened c.in-Err.ensures.counted) c.fail.ensures.short c.fail.ensures.items c.fail.ensures.told c.fail.ensures.refused

pub invariant_of-engine-in-Err : goal.invariant_of-engine-in-Err
invariant_of-engine-in-Err g c = (ungranted_at g c).kept

pub returns-in-Err-clause-turn : goal.returns-in-Err-clause-turn
returns-in-Err-clause-turn g c =
    let N = g.N.Naming in
    let later = c.fail.new.self in
    let shown : Shown = record { history = later.history.items; running = not later.printer.broken; clock = (g.D.Disk.story c.gather-gathered.new.disk).moment } in
    subst (λ (x : Standing). Takes N.script (N.start no_rows) x.shown shown c.args.who.session c.args.who.command kind.Grant Finished) c.engine.view_is (ungranted_at g c).takes

pub returns-in-Err-clause-disk : goal.returns-in-Err-clause-disk
returns-in-Err-clause-disk g c =
    let N = g.N.Naming in
    let new = g.D.Disk.story c.gather-gathered.new.disk in
    let later = c.fail.new.self in
    let shown : Shown = record { history = later.history.items; running = not later.printer.broken; clock = new.moment } in
    subst (λ (x : Standing). AnswersDisk N.script (N.start no_rows) x.shown shown (SomeRose x.faults (faults_of new))) c.engine.view_is (ungranted_at g c).disk
