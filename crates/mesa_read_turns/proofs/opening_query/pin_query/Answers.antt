use Rattle.std.proofs.Common.{◌≡◌, List, [], ◌∷◌, ◌++◌, length, true, false, not, refl, sym, ◌∙◌, ap, subst}
use Rattle.mesa_read_turns.specs.Opening.{HasItsFiles, IsHeaded, asked_state}
use Rattle.mesa_read_turns.proofs.Opens.{opened_engine, unopened_engine, unopened_takes}
use Rattle.mesa_read_turns.proofs.FilesTell.{asked_shaped, files_answered, opened_is, opened_undamaged}
use Rattle.mesa_read_turns.proofs.opening_query.pin_query.Goals as goal
use Rattle.mesa_engine.specs.Engine.{Standing, IsEngine, starts_of}
use Rattle.mesa_engine.specs.mesa_history_spec.Run.{First, Finished}
use Rattle.mesa_engine.specs.mesa_history_spec.Turns.{IsDue}
use Rattle.mesa_engine.proofs.BeforeTurns.{vault_at_seen}
use Rattle.mesa_engine.specs.EngineState.{books_of}
use Rattle.mesa_engine.specs.Vault.{Starts, outset_of}
use Rattle.mesa_engine.specs.Failure.{cause_in}
use Rattle.mesa_engine.specs.Memory.{Memory}
use Rattle.mesa_model.specs.Entry.{IsShort}
use Rattle.mesa_model.specs.declared.commands.Command.TheVariants as command
use Rattle.mesa_model.specs.declared.entries.Entry.{Entry}
use Rattle.mesa_model.specs.declared.entries.Kind.TheVariants as kind
use Rattle.mesa_model.specs.declared.entries.Outcome.TheVariants as outcome
use Rattle.mesa_pick_files.specs.Told.{Tells}
use Rattle.mesa_engine.specs.mesa_history_spec.Rows.{Rows, no_rows}
use Rattle.mesa_engine.proofs.mesa_invariant_spec.Alike.{due_alike}
use Rattle.mesa_engine.proofs.mesa_invariant_spec.Faulting.{disk_caused, disk_counted}
use Rattle.mesa_engine.specs.mesa_invariant_spec.Causes.{Unwritten, outcome_of}
use Rattle.mesa_engine.specs.mesa_invariant_spec.Queries.{HasNoAnswer, IsOpen}
use Rattle.mesa_engine.specs.mesa_invariant_spec.Turns.{AnswersDisk, Shown, SomeRose, Takes, entry, faults_of}
use Rattle.mesa_engine.specs.mesa_invariant_spec.Invariant.{run_at}

pub hold_files-held-requires-after_bounds : goal.hold_files-held-requires-after_bounds
hold_files-held-requires-after_bounds g c κs within = λ k is.
    let N = g.N.Naming in
    let n : Starts = starts_of N.script N.start N.sound N.origin N.since N.counted N.at_start in
    let i = c.engine.inside in
    asked_shaped (outset_of n no_rows) (n.origin no_rows) false i.metadata.state (g.D.Disk.story i.disk) (g.K.Sink.held i.log.printer.sink) i.log.history.items (not i.log.printer.broken) i.log.refused (c.engine.invariant.vault no_rows false (λ z. absurd cc))
    c.args.who.session c.args.words.now.version k is

-- ---- it is answered

due_at : (g : _) (c : goal.After-pass g) (w : Rows) → IsDue g.N.Naming.script (run_at g.N.Naming.script (g.N.Naming.start w) c.engine.inside.log.history.items) c.args.who.session c.args.who.command (command.Query c.args.words.now) First
due_at g c w =
    let N = g.N.Naming in
    let h = c.engine.inside.log.history.items in
    let due : IsDue N.script (run_at N.script (N.start no_rows) h) c.args.who.session c.args.who.command (command.Query c.args.words.now) First =
    subst (λ (x : Standing). IsDue N.script (run_at N.script (N.start no_rows) x.shown.history) c.args.who.session c.args.who.command (command.Query c.args.words.now) First) (sym c.engine.view_is) c.requires.due in
    due_alike N.script (N.start no_rows) (N.start w) h c.args.who.session c.args.who.command (command.Query c.args.words.now) First (N.alike w) refl due

runs : (g : _) (c : goal.After-pass g) → not c.engine.inside.log.printer.broken ≡ true
runs g c = ap (λ (s : Standing). s.shown.running) c.engine.view_is ∙ c.requires.runs

kept : (g : _) (c : goal.After-pass g)
    → IsEngine g.K.Sink.held g.K.Sink.faults (starts_of g.N.Naming.script g.N.Naming.start g.N.Naming.sound g.N.Naming.origin g.N.Naming.since g.N.Naming.counted g.N.Naming.at_start) g.N.Naming.room g.N.Naming.sink_faults c.hold_files-held.new.metadata (g.D.Disk.story c.hold_files-held.new.disk) c.pass.new.self
kept g c =
    let N = g.N.Naming in
    let n : Starts = starts_of N.script N.start N.sound N.origin N.since N.counted N.at_start in
    let i = c.engine.inside in
    let s = c.args.who.session in
    let number = c.args.who.command in
    let words = c.args.words.now in
    let l = i.metadata.state in
    let h = i.log.history.items in
    let at = c.position-at.result in
    let story = g.D.Disk.story i.disk in
    let new = g.D.Disk.story c.hold_files-held.new.disk in
    let short : IsShort (entry s number kind.Decide outcome.Stands c.clock-moment.result) = subst IsShort c.turn-turn.ensures.same c.turn-turn.ensures.short in
    let has = c.in-Ok.ensures.files in
    opened_engine g.K.Sink.held g.K.Sink.faults n N.room N.sink_faults i.metadata story new i.log c.pass.new.self c.engine.invariant c.hold_files-held.ensures.unmoved s number short.session short.command words c.clock-moment.result c.clock-moment.ensures (runs g c) at c.position-at.ensures
    (due_at g c) c.pass.ensures.room c.hold_files-held.new.metadata (files_answered g.D.Reader.FileReader.bytes g.D.Reader.FileReader.faults story.told l s words c.in-Ok.pinned has) has.sees.opened c.in-Ok.ensures.counts c.in-Ok.ensures.held
    (c.pass.ensures.items ∙ ap (λ x. h ++ x ∷ []) c.turn-turn.ensures.same) c.pass.ensures.printer c.pass.ensures.refused

pub invariant_of-engine : goal.invariant_of-engine
invariant_of-engine g c = kept g c

pub returns-in-Ok-clause-opened : goal.returns-in-Ok-clause-opened
returns-in-Ok-clause-opened g c =
    let N = g.N.Naming in
    let n : Starts = starts_of N.script N.start N.sound N.origin N.since N.counted N.at_start in
    let i = c.engine.inside in
    let s = c.args.who.session in
    let number = c.args.who.command in
    let words = c.args.words.now in
    let h = i.log.history.items in
    let p = c.in-Ok.pinned in
    let bytes = g.D.Reader.FileReader.bytes in
    let new = g.D.Disk.story c.hold_files-held.new.disk in
    let has = c.in-Ok.ensures.files in
    let short : IsShort (entry s number kind.Decide outcome.Stands c.clock-moment.result) = subst IsShort c.turn-turn.ensures.same c.turn-turn.ensures.short in
    let base =
    opened_is bytes g.D.Reader.FileReader.faults n i.metadata.state (g.D.Disk.story i.disk) new (g.K.Sink.held i.log.printer.sink) h (not i.log.printer.broken) i.log.refused c.engine.invariant.vault s number short.session short.command words
    c.clock-moment.result (c.clock-moment.ensures ∙ c.hold_files-held.ensures.unmoved.moment) (runs g c) c.hold_files-held.ensures.unmoved (due_at g c) c.in-Ok.ensures.counts c.position-at.result c.position-at.ensures has.sees.opened p has in
    subst (λ (hs : List Entry). IsOpen N.script N.start hs s number words p.at (λ w answer. IsHeaded p.query p.version answer × (N.sound w → Tells bytes p answer))) (sym (c.pass.ensures.items ∙ ap (λ x. h ++ x ∷ []) c.turn-turn.ensures.same))
    (subst (λ q. IsOpen N.script N.start (h ++ entry s number kind.Decide outcome.Stands c.clock-moment.result ∷ []) s number words q (λ w answer. IsHeaded p.query p.version answer × (N.sound w → Tells bytes p answer))) (sym c.in-Ok.ensures.at) base)

pub returns-in-Ok-clause-seen : goal.returns-in-Ok-clause-seen
returns-in-Ok-clause-seen g c =
    let N = g.N.Naming in
    let n : Starts = starts_of N.script N.start N.sound N.origin N.since N.counted N.at_start in
    let later = c.pass.new.self in
    let new = g.D.Disk.story c.hold_files-held.new.disk in
    vault_at_seen n c.hold_files-held.new.metadata.state new (g.K.Sink.held later.printer.sink) later.history.items (not later.printer.broken) later.refused new.moment (kept g c).vault

pub returns-in-Ok-clause-held : goal.returns-in-Ok-clause-held
returns-in-Ok-clause-held g c =
    let s = c.args.who.session in
    let version = c.args.words.now.version in
    ap (λ (x : Memory). x.state) c.in-Ok.ensures.held
    ∙ ap (asked_state c.engine.inside.metadata.state s version) c.position-at.ensures
    ∙ ap (λ (x : Standing). asked_state x.state s version (length x.shown.history)) c.engine.view_is

pub returns-in-Ok-clause-files : goal.returns-in-Ok-clause-files
returns-in-Ok-clause-files g c =
    subst (λ (x : Standing). HasItsFiles g.D.Reader.FileReader.bytes g.D.Reader.FileReader.faults x.told x.state c.args.who.session c.args.words.now c.in-Ok.pinned) c.engine.view_is c.in-Ok.ensures.files

pub returns-in-Ok-clause-disk : goal.returns-in-Ok-clause-disk
returns-in-Ok-clause-disk g c =
    let N = g.N.Naming in
    let i = c.engine.inside in
    let who = c.args.who in
    let h = i.log.history.items in
    let story = g.D.Disk.story i.disk in
    let new = g.D.Disk.story c.hold_files-held.new.disk in
    let later = c.pass.new.self in
    let shown : Shown = record { history = later.history.items; running = not later.printer.broken; clock = new.moment } in
    subst (λ (x : Standing). AnswersDisk N.script (N.start no_rows) x.shown shown (SomeRose x.faults (faults_of new))) c.engine.view_is
    (disk_counted N.script (N.start no_rows) (record { history = h; running = not i.log.printer.broken; clock = story.moment }) shown (entry who.session who.command kind.Decide outcome.Stands c.clock-moment.result)
    (c.pass.ensures.items ∙ ap (λ x. h ++ x ∷ []) c.turn-turn.ensures.same) story new refl c.in-Ok.ensures.counts)

-- ---- it isn't

due_then : (g : _) (c : goal.After-fail g) (w : Rows) → IsDue g.N.Naming.script (run_at g.N.Naming.script (g.N.Naming.start w) c.engine.inside.log.history.items) c.args.who.session c.args.who.command (command.Query c.args.words.now) First
due_then g c w =
    let N = g.N.Naming in
    let h = c.engine.inside.log.history.items in
    let due : IsDue N.script (run_at N.script (N.start no_rows) h) c.args.who.session c.args.who.command (command.Query c.args.words.now) First =
    subst (λ (x : Standing). IsDue N.script (run_at N.script (N.start no_rows) x.shown.history) c.args.who.session c.args.who.command (command.Query c.args.words.now) First) (sym c.engine.view_is) c.requires.due in
    due_alike N.script (N.start no_rows) (N.start w) h c.args.who.session c.args.who.command (command.Query c.args.words.now) First (N.alike w) refl due

ran_then : (g : _) (c : goal.After-fail g) → not c.engine.inside.log.printer.broken ≡ true
ran_then g c = ap (λ (s : Standing). s.shown.running) c.engine.view_is ∙ c.requires.runs

over : (g : _) (c : goal.After-fail g)
    → IsEngine g.K.Sink.held g.K.Sink.faults (starts_of g.N.Naming.script g.N.Naming.start g.N.Naming.sound g.N.Naming.origin g.N.Naming.since g.N.Naming.counted g.N.Naming.at_start) g.N.Naming.room g.N.Naming.sink_faults c.engine.inside.metadata (g.D.Disk.story c.hold_files-held.new.disk) c.fail.new.self
over g c =
    let N = g.N.Naming in
    let n : Starts = starts_of N.script N.start N.sound N.origin N.since N.counted N.at_start in
    let i = c.engine.inside in
    let short = c.fail.ensures.short in
    unopened_engine g.K.Sink.held g.K.Sink.faults n N.room N.sink_faults i.metadata (g.D.Disk.story i.disk) (g.D.Disk.story c.hold_files-held.new.disk) i.log c.fail.new.self c.engine.invariant c.hold_files-held.ensures.unmoved c.args.who.session c.args.who.command short.session short.command c.args.words.now
    c.clock-moment.result c.clock-moment.ensures (ran_then g c) (length i.log.history.items) refl (due_then g c) c.fail.ensures.room (cause_in c.in-Err.failure)
    (opened_undamaged n i.metadata.state (g.D.Disk.story i.disk) (g.K.Sink.held i.log.printer.sink) i.log.history.items (not i.log.printer.broken) i.log.refused c.engine.invariant.vault c.args.who.session c.args.words.now c.in-Err.failure c.in-Err.ensures.unsound)
    c.in-Err.ensures.refused c.in-Err.ensures.counts c.fail.ensures.items c.fail.ensures.told c.fail.ensures.refused

pub invariant_of-engine-in-Err : goal.invariant_of-engine-in-Err
invariant_of-engine-in-Err g c =
    let N = g.N.Naming in
    let n : Starts = starts_of N.script N.start N.sound N.origin N.since N.counted N.at_start in
    subst (λ (x : Memory). IsEngine g.K.Sink.held g.K.Sink.faults n N.room N.sink_faults x (g.D.Disk.story c.hold_files-held.new.disk) c.fail.new.self) (sym c.in-Err.ensures.kept) (over g c)

pub returns-in-Err-clause-seen : goal.returns-in-Err-clause-seen
returns-in-Err-clause-seen g c =
    let N = g.N.Naming in
    let n : Starts = starts_of N.script N.start N.sound N.origin N.since N.counted N.at_start in
    let later = c.fail.new.self in
    let new = g.D.Disk.story c.hold_files-held.new.disk in
    vault_at_seen n c.engine.inside.metadata.state new (g.K.Sink.held later.printer.sink) later.history.items (not later.printer.broken) later.refused new.moment (over g c).vault

pub returns-in-Err-clause-over : goal.returns-in-Err-clause-over
returns-in-Err-clause-over g c =
    let N = g.N.Naming in
    let n : Starts = starts_of N.script N.start N.sound N.origin N.since N.counted N.at_start in
    let i = c.engine.inside in
    let s = c.args.who.session in
    let number = c.args.who.command in
    let h = i.log.history.items in
    let story = g.D.Disk.story i.disk in
    let new = g.D.Disk.story c.hold_files-held.new.disk in
    let later = c.fail.new.self in
    let cause = cause_in c.in-Err.failure in
    let short = c.fail.ensures.short in
    let shown : Shown = record { history = later.history.items; running = not later.printer.broken; clock = new.moment } in
    subst (λ (x : Standing). Takes N.script (N.start no_rows) x.shown shown s number kind.Decide Finished) c.engine.view_is
    (unopened_takes (outset_of n no_rows) (n.origin no_rows) false i.metadata.state story (g.K.Sink.held i.log.printer.sink) h (not i.log.printer.broken) i.log.refused (c.engine.invariant.vault no_rows false (λ z. absurd cc))
    s number short.session short.command c.args.words.now c.clock-moment.result (c.clock-moment.ensures ∙ c.hold_files-held.ensures.unmoved.moment) (ran_then g c) new c.hold_files-held.ensures.unmoved (due_then g c no_rows)
    cause c.in-Err.ensures.refused story.moment shown (sym c.clock-moment.ensures) (returns-in-Err-clause-seen g c) (c.fail.ensures.items ∙ ap (λ x. h ++ entry s number kind.Decide (outcome_of cause) x ∷ []) c.clock-moment.ensures))

pub returns-in-Err-clause-disk : goal.returns-in-Err-clause-disk
returns-in-Err-clause-disk g c =
    let N = g.N.Naming in
    let i = c.engine.inside in
    let who = c.args.who in
    let h = i.log.history.items in
    let story = g.D.Disk.story i.disk in
    let new = g.D.Disk.story c.hold_files-held.new.disk in
    let later = c.fail.new.self in
    let cause = cause_in c.in-Err.failure in
    let shown : Shown = record { history = later.history.items; running = not later.printer.broken; clock = new.moment } in
    subst (λ (x : Standing). AnswersDisk N.script (N.start no_rows) x.shown shown (SomeRose x.faults (faults_of new))) c.engine.view_is
    (disk_caused N.script (N.start no_rows) (record { history = h; running = not i.log.printer.broken; clock = story.moment }) shown (entry who.session who.command kind.Decide (outcome_of cause) c.clock-moment.result)
    c.fail.ensures.items story new refl cause refl c.in-Err.ensures.counts
    (λ low (is : cause ≡ Unwritten). absurd (subst (HasNoAnswer (books_of no_rows i.metadata.state) who.session c.args.words.now) is c.in-Err.ensures.refused)))
