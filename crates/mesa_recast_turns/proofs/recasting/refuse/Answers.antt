use Rattle.std.proofs.Common.{◌≡◌, ◌∷◌, ◌++◌, [], length, true, false, not, refl, sym, ◌∙◌, ap, subst}
use Rattle.mesa_work_turns.specs.mesa_history_spec.Counting.{answers_bench, answers_disk}
use Rattle.mesa_work_turns.specs.mesa_history_spec.Replay.{closes}
use Rattle.mesa_work_turns.specs.mesa_history_spec.Run.{Renewed, Finished}
use Rattle.mesa_work_turns.specs.mesa_history_spec.Turns.{IsDue}
use Rattle.mesa_model.specs.declared.commands.Command.TheVariants as command
use Rattle.mesa_model.specs.declared.entries.Kind.TheVariants as kind
use Rattle.mesa_engine.specs.EngineState.{books_of}
use Rattle.mesa_engine.specs.Vault.{Starts}
use Rattle.mesa_engine.proofs.BeforeTurns.{vault_at_seen}
use Rattle.mesa_engine.specs.Failure.{cause_in}
use Rattle.mesa_engine.specs.Memory.{Memory}
use Rattle.mesa_work_turns.specs.mesa_history_spec.Rows.{no_rows}
use Rattle.mesa_work_turns.specs.mesa_invariant_spec.Causes.{outcome_of}
use Rattle.mesa_work_turns.specs.mesa_invariant_spec.Turns.{AnswersDisk, AnswersDraft, Shown, Takes, entry}
use Rattle.mesa_work_turns.specs.mesa_invariant_spec.Invariant.{run_at}
use Rattle.mesa_work_turns.proofs.mesa_invariant_spec.Alike.{due_alike}
use Rattle.mesa_work_turns.proofs.mesa_invariant_spec.Faulting.{disk_never}
use Rattle.mesa_engine.specs.Engine.{Standing, IsEngine, starts_of}
use Rattle.mesa_engine.proofs.Drafting.{answers_none}
use Rattle.mesa_open_files.specs.Recasts.{claim_of_recast, recast_in}
use Rattle.mesa_work_turns.proofs.Closings.{given_up_takes}
use Rattle.mesa_recast_turns.specs.Unfit.{HasNotRecast, cause_unfit, unfit_state}
use Rattle.mesa_recast_turns.proofs.Unfits.{no_draft, no_fault, unfit_engine}
use Rattle.mesa_recast_turns.proofs.recasting.refuse.Goals as goal

due_at : (g : _) (c : goal.After-fail g)
    → IsDue g.N.Naming.script (run_at g.N.Naming.script (g.N.Naming.start no_rows) c.engine.inside.log.history.items) c.args.who.session c.args.who.command (command.Recast c.requires.due.0) (Renewed (claim_of_recast c.args.task.now))
due_at g c =
    subst (λ (x : Standing). IsDue g.N.Naming.script (run_at g.N.Naming.script (g.N.Naming.start no_rows) x.shown.history) c.args.who.session c.args.who.command (command.Recast c.requires.due.0) (Renewed (claim_of_recast c.args.task.now)))
    (sym c.engine.view_is) c.requires.due.1

runs : (g : _) (c : goal.After-fail g) → not c.engine.inside.log.printer.broken ≡ true
runs g c = ap (λ (s : Standing). s.shown.running) c.engine.view_is ∙ c.requires.runs

kept : (g : _) (c : goal.After-fail g)
    → IsEngine g.K.Sink.held g.K.Sink.faults (starts_of g.N.Naming.script g.N.Naming.start g.N.Naming.sound g.N.Naming.origin g.N.Naming.since g.N.Naming.counted g.N.Naming.at_start) g.N.Naming.room g.N.Naming.sink_faults c.fall-failure.new.metadata (g.D.Disk.story c.engine.inside.disk) c.fail.new.self
kept g c =
    let N = g.N.Naming in
    let n : Starts = starts_of N.script N.start N.sound N.origin N.since N.counted N.at_start in
    let i = c.engine.inside in
    let s = c.args.who.session in
    let number = c.args.who.command in
    let words = c.requires.due.0 in
    let claim = claim_of_recast c.args.task.now in
    let h = i.log.history.items in
    let has = subst (λ (x : Standing). HasNotRecast (books_of no_rows x.state) (length x.shown.history) claim c.args.task.now.epoch (recast_in c.args.task.now) c.args.why) (sym c.engine.view_is) c.requires.why in
    unfit_engine g.K.Sink.held g.K.Sink.faults n N.room N.sink_faults i.metadata c.fall-failure.new.metadata (g.D.Disk.story i.disk) i.log c.fail.new.self c.engine.invariant
    s number c.fail.ensures.short.session c.fail.ensures.short.command words c.clock-moment.result c.clock-moment.ensures (runs g c) claim c.args.task.now.epoch (recast_in c.args.task.now) refl
    (λ w. due_alike N.script (N.start no_rows) (N.start w) h s number (command.Recast words) (Renewed claim) (N.alike w) refl (due_at g c))
    c.args.why has (cause_in c.fall-failure.result) c.fall-failure.ensures.cause c.fail.ensures.items c.fail.ensures.room c.fall-failure.ensures.after c.fail.ensures.told c.fail.ensures.refused

pub invariant_of-engine : goal.invariant_of-engine
invariant_of-engine g c = kept g c

pub returns-clause-turn : goal.returns-clause-turn
returns-clause-turn g c =
    let N = g.N.Naming in
    let n : Starts = starts_of N.script N.start N.sound N.origin N.since N.counted N.at_start in
    let i = c.engine.inside in
    let s = c.args.who.session in
    let number = c.args.who.command in
    let story = g.D.Disk.story i.disk in
    let h = i.log.history.items in
    let later = c.fail.new.self in
    let cause = cause_in c.fall-failure.result in
    let new : Shown = record { history = later.history.items; running = not later.printer.broken; clock = story.moment } in
    subst (λ (x : Standing). Takes N.script (N.start no_rows) x.shown new s number kind.Close Finished) c.engine.view_is
    (given_up_takes n no_rows (record { history = h; running = not i.log.printer.broken; clock = story.moment }) new s number (command.Recast c.requires.due.0) refl false (claim_of_recast c.args.task.now) (due_at g c) cause
    (c.fail.ensures.items ∙ ap (λ x. h ++ entry s number kind.Close (outcome_of cause) x ∷ []) c.clock-moment.ensures) (runs g c)
    (vault_at_seen n c.fall-failure.new.metadata.state story (g.K.Sink.held later.printer.sink) later.history.items (not later.printer.broken) later.refused story.moment (kept g c).vault))

pub returns-clause-state : goal.returns-clause-state
returns-clause-state g c =
    ap (λ (m : Memory). m.state) c.fall-failure.ensures.after ∙ ap (λ (x : Standing). unfit_state c.args.why c.args.task.now.table c.args.task.now.lease x.state) c.engine.view_is

pub returns-clause-draft : goal.returns-clause-draft
returns-clause-draft g c =
    let N = g.N.Naming in
    let i = c.engine.inside in
    let s = c.args.who.session in
    let number = c.args.who.command in
    let story = g.D.Disk.story i.disk in
    let h = i.log.history.items in
    let later = c.fail.new.self in
    let new : Shown = record { history = later.history.items; running = not later.printer.broken; clock = story.moment } in
    let e = entry s number kind.Close (outcome_of (cause_in c.fall-failure.result)) c.clock-moment.result in
    let closing = closes (run_at N.script (N.start no_rows) h).moment e in
    subst (λ (x : Standing). AnswersDraft N.script (N.start no_rows) x.shown new s ⊥) c.engine.view_is
    (answers_none N.script (N.start no_rows) (record { history = h; running = not i.log.printer.broken; clock = story.moment }) new s e c.fail.ensures.items
    (ap (λ k. answers_bench closing (outcome_of k)) c.fall-failure.ensures.cause ∙ no_draft closing c.args.why))

pub returns-clause-disk : goal.returns-clause-disk
returns-clause-disk g c =
    let N = g.N.Naming in
    let i = c.engine.inside in
    let who = c.args.who in
    let story = g.D.Disk.story i.disk in
    let h = i.log.history.items in
    let later = c.fail.new.self in
    let new : Shown = record { history = later.history.items; running = not later.printer.broken; clock = story.moment } in
    let e = entry who.session who.command kind.Close (outcome_of (cause_in c.fall-failure.result)) c.clock-moment.result in
    let closing = closes (run_at N.script (N.start no_rows) h).moment e in
    subst (λ (x : Standing). AnswersDisk N.script (N.start no_rows) x.shown new ⊥) c.engine.view_is
    (disk_never N.script (N.start no_rows) (record { history = h; running = not i.log.printer.broken; clock = story.moment }) new e c.fail.ensures.items
    (ap (λ k. answers_disk closing (outcome_of k)) c.fall-failure.ensures.cause ∙ no_fault closing c.args.why))

pub returns-clause-outcome : goal.returns-clause-outcome
returns-clause-outcome g c =
    let who = c.args.who in
    let h = c.engine.inside.log.history.items in
    let now = (g.D.Disk.story c.engine.inside.disk).moment in
    subst (λ (x : Standing). c.fail.new.self.history.items ≡ x.shown.history ++ entry who.session who.command kind.Close (outcome_of (cause_unfit c.args.why)) now ∷ []) c.engine.view_is
    (c.fail.ensures.items ∙ (λ j. h ++ entry who.session who.command kind.Close (outcome_of (c.fall-failure.ensures.cause j)) (c.clock-moment.ensures j) ∷ []))
