use Rattle.std.proofs.Common.{◌≡◌, ◌∷◌, ◌++◌, [], length, Option, Some, ℕ, IsTrue, true, false, not, refl, sym, ◌∙◌, ap, subst, arith}
use Rattle.std.specs.Prelude.{◌==◌}
use Rattle.mesa_io.specs.Causes.{last}
use Rattle.mesa_write_turns.specs.mesa_history_spec.Counting.{answers_bench}
use Rattle.mesa_write_turns.specs.mesa_history_spec.Replay.{closes}
use Rattle.mesa_write_turns.specs.mesa_history_spec.Run.{Granted, Finished}
use Rattle.mesa_write_turns.specs.mesa_history_spec.Turns.{IsDue}
use Rattle.mesa_model.specs.declared.commands.Command.TheVariants as command
use Rattle.mesa_model.specs.declared.entries.Kind.TheVariants as kind
use Rattle.mesa_engine.specs.EngineState.{EngineState}
use Rattle.mesa_engine.specs.Vault.{Starts, outset_of}
use Rattle.mesa_engine.proofs.BeforeTurns.{vault_at_seen}
use Rattle.mesa_engine.specs.Failure.{cause_in}
use Rattle.mesa_engine.specs.Printing.{PrintsBlock}
use Rattle.mesa_engine.specs.Memory.{Memory}
use Rattle.mesa_write_turns.specs.mesa_history_spec.Output.{block}
use Rattle.mesa_write_turns.specs.mesa_history_spec.Rows.{no_rows}
use Rattle.mesa_open_files.specs.GivingBack.{task_inputs}
use Rattle.mesa_write_turns.specs.mesa_invariant_spec.Causes.{Cause, is_read_fault, outcome_of, reply_of, told_at}
use Rattle.mesa_write_turns.specs.mesa_invariant_spec.Printing.{IsPut}
use Rattle.mesa_write_turns.specs.mesa_invariant_spec.Turns.{AnswersDisk, AnswersDraft, Shown, SomeRose, Takes, entry, faults_of}
use Rattle.mesa_write_turns.specs.mesa_invariant_spec.Invariant.{run_at}
use Rattle.mesa_write_turns.proofs.mesa_invariant_spec.Alike.{due_alike}
use Rattle.mesa_write_turns.proofs.mesa_invariant_spec.Clock.{begun_moment, not_closing}
use Rattle.mesa_write_turns.proofs.mesa_invariant_spec.Faulting.{disk_caused}
use Rattle.mesa_engine.specs.Engine.{Standing, IsEngine, starts_of}
use Rattle.mesa_engine.proofs.Drafting.{answers_where}
use Rattle.mesa_open_files.specs.Tasks.{claim_in}
use Rattle.mesa_open_files.specs.declared.merging.CompactError.TheVariants as compact
use Rattle.mesa_read_turns.proofs.Closes.{given_counts}
use Rattle.mesa_work_turns.specs.Unmerged.{cause_of, closing_cause, closing_state}
use Rattle.mesa_work_turns.proofs.Closings.{closing_read, given_up_engine, given_up_takes, only_draft, paid_back}
use Rattle.mesa_work_turns.proofs.unmerged.give_up.Goals as goal

abbrev closed_of : EngineState → Option ℕ
closed_of l = l.closed

due_at : (g : _) (c : goal.After-fail g)
    → IsDue g.N.Naming.script (run_at g.N.Naming.script (g.N.Naming.start no_rows) c.engine.inside.log.history.items) c.args.who.session c.args.who.command (command.Work c.args.words.now) (Granted (claim_in c.args.task))
due_at g c =
    subst (λ (x : Standing). IsDue g.N.Naming.script (run_at g.N.Naming.script (g.N.Naming.start no_rows) x.shown.history) c.args.who.session c.args.who.command (command.Work c.args.words.now) (Granted (claim_in c.args.task)))
    (sym c.engine.view_is) c.requires.due

runs : (g : _) (c : goal.After-fail g) → not c.engine.inside.log.printer.broken ≡ true
runs g c = ap (λ (s : Standing). s.shown.running) c.engine.view_is ∙ c.requires.runs

kept : (g : _) (c : goal.After-fail g)
    → IsEngine g.K.Sink.held g.K.Sink.faults (starts_of g.N.Naming.script g.N.Naming.start g.N.Naming.sound g.N.Naming.origin g.N.Naming.since g.N.Naming.counted g.N.Naming.at_start) g.N.Naming.room g.N.Naming.sink_faults c.fall-failure.new.metadata (g.D.Disk.story c.retire_task.new.disk) c.fail.new.self
kept g c =
    let N = g.N.Naming in
    let n : Starts = starts_of N.script N.start N.sound N.origin N.since N.counted N.at_start in
    let i = c.engine.inside in
    let s = c.args.who.session in
    let number = c.args.who.command in
    let words = c.args.words.now in
    let claim = claim_in c.args.task in
    let cause = cause_in c.fall-failure.result in
    let h = i.log.history.items in
    let mo = c.clock-moment.result in
    given_up_engine g.K.Sink.held g.K.Sink.faults n N.room N.sink_faults i.metadata c.fall-failure.new.metadata (g.D.Disk.story i.disk) (g.D.Disk.story c.retire_task.new.disk) i.log c.fail.new.self c.engine.invariant
    s number c.fail.ensures.short.session c.fail.ensures.short.command (command.Work words) refl true mo (c.clock-moment.ensures ∙ c.retire_task.ensures.unmoved.moment) (omega arith) (runs g c) c.position-at.result c.position-at.ensures claim
    (λ w. due_alike N.script (N.start no_rows) (N.start w) h s number (command.Work words) (Granted claim) (N.alike w) refl (due_at g c))
    c.retire_task.ensures.unmoved c.args.error
    (λ w b ok. paid_back (outset_of n w) (n.origin w) b i.metadata.state (g.D.Disk.story i.disk) (g.D.Disk.story c.retire_task.new.disk) (g.K.Sink.held i.log.printer.sink) h (not i.log.printer.broken) i.log.refused
    (c.engine.invariant.vault w b ok) (is_read_fault (cause_of c.args.error)) c.retire_task.ensures.unmoved g.D.Reader.FileReader.faults (task_inputs c.args.task) c.retire_task.ensures.given c.requires.read)
    c.may_be_told.ensures c.requires.undamaged
    cause c.fall-failure.ensures.cause c.fail.ensures.items c.fail.ensures.room c.fall-failure.ensures.after
    (subst (λ at. PrintsBlock g.K.Sink.held g.K.Sink.faults i.log.printer c.fail.new.self.printer (entry s number kind.Close (outcome_of cause) mo) (told_at at (reply_of cause))) (sym c.position-at.ensures) c.fail.ensures.told)
    c.fail.ensures.refused

pub invariant_of-engine : goal.invariant_of-engine
invariant_of-engine g c = kept g c

pub returns-clause-turn : goal.returns-clause-turn
returns-clause-turn g c =
    let N = g.N.Naming in
    let n : Starts = starts_of N.script N.start N.sound N.origin N.since N.counted N.at_start in
    let i = c.engine.inside in
    let s = c.args.who.session in
    let number = c.args.who.command in
    let story = g.D.Disk.story i.disk in
    let new_story = g.D.Disk.story c.retire_task.new.disk in
    let h = i.log.history.items in
    let later = c.fail.new.self in
    let cause = cause_in c.fall-failure.result in
    let new : Shown = record { history = later.history.items; running = not later.printer.broken; clock = new_story.moment } in
    subst (λ (x : Standing). Takes N.script (N.start no_rows) x.shown new s number kind.Close Finished) c.engine.view_is
    (given_up_takes n no_rows (record { history = h; running = not i.log.printer.broken; clock = story.moment }) new s number (command.Work c.args.words.now) refl true (claim_in c.args.task) (due_at g c) cause
    (c.fail.ensures.items ∙ ap (λ x. h ++ entry s number kind.Close (outcome_of cause) x ∷ []) c.clock-moment.ensures) (runs g c)
    (vault_at_seen n c.fall-failure.new.metadata.state new_story (g.K.Sink.held later.printer.sink) later.history.items (not later.printer.broken) later.refused new_story.moment (kept g c).vault))

pub returns-clause-state : goal.returns-clause-state
returns-clause-state g c =
    let task = c.args.task in
    let state = ap (λ (x : Standing). x.state) c.engine.view_is in
    let clock = c.clock-moment.ensures ∙ c.retire_task.ensures.unmoved.moment ∙ ap (λ (x : Standing). x.shown.clock) c.engine.view_is in
    let at = c.position-at.ensures ∙ ap (λ (x : Standing). length x.shown.history) c.engine.view_is in
    ap (λ (m : Memory). m.state) c.fall-failure.ensures.after ∙ (λ i. closing_state (closed_of (state i)) c.args.error (clock i == last) (at i) task.table task.lease (state i))

pub returns-clause-draft : goal.returns-clause-draft
returns-clause-draft g c =
    let N = g.N.Naming in
    let i = c.engine.inside in
    let s = c.args.who.session in
    let number = c.args.who.command in
    let story = g.D.Disk.story i.disk in
    let new_story = g.D.Disk.story c.retire_task.new.disk in
    let h = i.log.history.items in
    let later = c.fail.new.self in
    let new : Shown = record { history = later.history.items; running = not later.printer.broken; clock = new_story.moment } in
    let e = entry s number kind.Close (outcome_of (cause_in c.fall-failure.result)) c.clock-moment.result in
    let closing = closes (run_at N.script (N.start no_rows) h).moment e in
    subst (λ (x : Standing). AnswersDraft N.script (N.start no_rows) x.shown new s (c.args.error ≡ compact.Draft)) c.engine.view_is
    (answers_where N.script (N.start no_rows) (record { history = h; running = not i.log.printer.broken; clock = story.moment }) new s e (c.args.error ≡ compact.Draft) c.fail.ensures.items
    (λ low answers. only_draft i.metadata.state.closed c.args.error closing (subst (λ k. IsTrue (answers_bench closing (outcome_of k))) c.fall-failure.ensures.cause answers)))

pub returns-clause-disk : goal.returns-clause-disk
returns-clause-disk g c =
    let N = g.N.Naming in
    let i = c.engine.inside in
    let s = c.args.who.session in
    let number = c.args.who.command in
    let story = g.D.Disk.story i.disk in
    let new_story = g.D.Disk.story c.retire_task.new.disk in
    let h = i.log.history.items in
    let later = c.fail.new.self in
    let cause = cause_in c.fall-failure.result in
    let e = entry s number kind.Close (outcome_of cause) c.clock-moment.result in
    let claim = claim_in c.args.task in
    let same = c.retire_task.ensures.unmoved.moment in
    let there = begun_moment N.script (N.start no_rows) h s number (command.Work c.args.words.now) (Granted claim) (due_at g c) (λ first. absurd cc) in
    let counts = given_counts g.D.Reader.FileReader.faults (task_inputs c.args.task) story new_story (is_read_fault cause) c.retire_task.ensures.given
    (λ is. c.requires.read (closing_read i.metadata.state.closed c.args.error (sym (ap is_read_fault c.fall-failure.ensures.cause) ∙ is))) in
    let new : Shown = record { history = later.history.items; running = not later.printer.broken; clock = new_story.moment } in
    subst (λ (x : Standing). AnswersDisk N.script (N.start no_rows) x.shown new (SomeRose x.faults (faults_of new_story))) c.engine.view_is
    (disk_caused N.script (N.start no_rows) (record { history = h; running = not i.log.printer.broken; clock = story.moment }) new e c.fail.ensures.items story new_story refl cause refl counts
    (λ below unwritten. not_closing (run_at N.script (N.start no_rows) h).moment story.moment e (c.engine.invariant.vault no_rows false (λ z. absurd cc)).invariant.at there (c.clock-moment.ensures ∙ same) (omega (arith, below, same))))

pub returns-clause-outcome : goal.returns-clause-outcome
returns-clause-outcome g c =
    let h = c.engine.inside.log.history.items in
    let who = c.args.who in
    let now = (g.D.Disk.story c.retire_task.new.disk).moment in
    subst (λ (x : Standing). c.fail.new.self.history.items ≡ x.shown.history ++ entry who.session who.command kind.Close (outcome_of (closing_cause x.state.closed c.args.error)) now ∷ []) c.engine.view_is
    (c.fail.ensures.items ∙ (λ j. h ++ entry who.session who.command kind.Close (outcome_of (c.fall-failure.ensures.cause j)) (c.clock-moment.ensures j) ∷ []))

pub returns-clause-prints : goal.returns-clause-prints
returns-clause-prints g c =
    let i = c.engine.inside in
    let h = i.log.history.items in
    let who = c.args.who in
    let error = c.args.error in
    let later = c.fail.new.self.printer in
    let now = g.K.Sink.held later.sink in
    let block_of = λ (cause : Cause) (m : ℕ) (at : ℕ). block (entry who.session who.command kind.Close (outcome_of cause) m) (Some (told_at at (reply_of cause))) in
    let put : IsPut (block_of (cause_in c.fall-failure.result) c.clock-moment.result (length h)) (not later.broken) (g.K.Sink.held i.log.printer.sink) now = c.fail.ensures.told.put in
    subst (λ (x : Standing). IsPut (block_of (closing_cause x.state.closed error) (g.D.Disk.story c.retire_task.new.disk).moment (length x.shown.history)) (not later.broken) x.sink now) c.engine.view_is
    (subst (λ k. IsPut (block_of k (g.D.Disk.story c.retire_task.new.disk).moment (length h)) (not later.broken) (g.K.Sink.held i.log.printer.sink) now) c.fall-failure.ensures.cause
    (subst (λ m. IsPut (block_of (cause_in c.fall-failure.result) m (length h)) (not later.broken) (g.K.Sink.held i.log.printer.sink) now) c.clock-moment.ensures put))
