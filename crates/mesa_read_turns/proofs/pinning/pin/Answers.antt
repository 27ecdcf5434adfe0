use Rattle.std.proofs.Common.{◌≡◌, ◌+◌, [], ◌∷◌, ◌++◌, length, true, false, not, refl, sym, ◌∙◌, ap, subst, arith}
use Rattle.mesa_engine.specs.mesa_history_spec.Replay.{no_rows as no_lines}
use Rattle.mesa_engine.specs.mesa_history_spec.Run.{First, Finished}
use Rattle.mesa_engine.specs.mesa_history_spec.Turns.{IsDue}
use Rattle.mesa_model.specs.Entry.{IsShort}
use Rattle.mesa_model.specs.Pins.{count_at}
use Rattle.mesa_model.specs.declared.commands.Command.TheVariants as command
use Rattle.mesa_model.specs.declared.entries.Entry.{Entry}
use Rattle.mesa_model.specs.declared.entries.Kind.TheVariants as kind
use Rattle.mesa_model.specs.declared.entries.Outcome.TheVariants as outcome
use Rattle.mesa_model.specs.declared.replies.Reply.TheVariants as reply
use Rattle.mesa_engine.specs.Turned.{pinned_state}
use Rattle.mesa_engine.specs.Vault.{Starts, outset_of}
use Rattle.mesa_engine.proofs.BeforeTurns.{vault_at_seen}
use Rattle.mesa_engine.specs.Printing.{PrintsBlock}
use Rattle.mesa_engine.specs.Memory.{Memory, hold_now, with_state}
use Rattle.mesa_engine.specs.mesa_history_spec.Rows.{no_rows}
use Rattle.mesa_engine.specs.mesa_invariant_spec.Causes.{told_at}
use Rattle.mesa_engine.specs.mesa_invariant_spec.Turns.{AnswersDisk, Shown, Takes, entry}
use Rattle.mesa_engine.specs.mesa_invariant_spec.Invariant.{run_at}
use Rattle.mesa_engine.proofs.mesa_invariant_spec.Alike.{due_alike}
use Rattle.mesa_engine.proofs.mesa_invariant_spec.Faulting.{disk_never}
use Rattle.mesa_engine.proofs.mesa_invariant_spec.Going.{simple_takes}
use Rattle.mesa_engine.specs.Engine.{Standing, IsEngine, starts_of}
use Rattle.mesa_engine.proofs.Turning.{told_engine}
use Rattle.mesa_read_turns.proofs.Pins.{token_fits, with_pin_vault}
use Rattle.mesa_read_turns.proofs.pinning.pin.Goals as goal

pub pin-requires : goal.pin-requires
pin-requires g c =
    let i = c.engine.inside in
    let room = ap (λ (s : Standing). length s.shown.history) c.engine.view_is in
    token_fits i.metadata.state.given c.args.who.session (length i.log.history.items) g.N.Naming.room (c.engine.invariant.vault no_rows false (λ is. absurd cc)).counts.given (let less = c.requires.room in omega (arith, less, room)) c.engine.invariant.few

due_at : (g : _) (c : goal.After-drop-reply g) → IsDue g.N.Naming.script (run_at g.N.Naming.script (g.N.Naming.start no_rows) c.engine.inside.log.history.items) c.args.who.session c.args.who.command (command.Pin c.args.asked) First
due_at g c = subst (λ (s : Standing). IsDue g.N.Naming.script (run_at g.N.Naming.script (g.N.Naming.start no_rows) s.shown.history) c.args.who.session c.args.who.command (command.Pin c.args.asked) First) (sym c.engine.view_is) c.requires.due

runs : (g : _) (c : goal.After-drop-reply g) → not c.engine.inside.log.printer.broken ≡ true
runs g c = ap (λ (s : Standing). s.shown.running) c.engine.view_is ∙ c.requires.runs

kept : (g : _) (c : goal.After-drop-reply g)
    → IsEngine g.K.Sink.held g.K.Sink.faults (starts_of g.N.Naming.script g.N.Naming.start g.N.Naming.sound g.N.Naming.origin g.N.Naming.since g.N.Naming.counted g.N.Naming.at_start) g.N.Naming.room g.N.Naming.sink_faults c.pin.new.self (g.D.Disk.story c.engine.inside.disk) c.tell.new.self
kept g c =
    let N = g.N.Naming in
    let n : Starts = starts_of N.script N.start N.sound N.origin N.since N.counted N.at_start in
    let i = c.engine.inside in
    let s = c.args.who.session in
    let number = c.args.who.command in
    let asked = c.args.asked in
    let version = c.in-Ok.version in
    let l = i.metadata.state in
    let story = g.D.Disk.story i.disk in
    let h = i.log.history.items in
    let old = c.engine.invariant in
    let m = c.clock.result in
    let at = c.position-at.result in
    let later = c.tell.new.self in
    let e : Entry = entry s number kind.Decide outcome.Stands m in
    let short : IsShort e = subst IsShort c.turn-turn.ensures.same c.turn-turn.ensures.short in
    let after : Memory = with_state (pinned_state l s version (hold_now l at)) i.metadata in
    let told = told_at at (reply.Pinned (count_at l.given s + 1) version) in
    let prints = subst (λ x. PrintsBlock g.K.Sink.held g.K.Sink.faults i.log.printer later.printer x told) c.turn-turn.ensures.same
    (subst (λ token. PrintsBlock g.K.Sink.held g.K.Sink.faults i.log.printer later.printer c.turn-turn.result (told_at at (reply.Pinned token version))) c.in-Ok-pin.ensures.token (c.tell.ensures.told no_lines refl)) in
    subst (λ (x : Memory). IsEngine g.K.Sink.held g.K.Sink.faults n N.room N.sink_faults x story later) (sym c.in-Ok-pin.ensures.pinned)
    (told_engine g.K.Sink.held g.K.Sink.faults n N.room N.sink_faults i.metadata after story story i.log later e old (c.tell.ensures.items ∙ ap (λ x. h ++ x ∷ []) c.turn-turn.ensures.same) c.tell.ensures.room c.clock.ensures (omega arith) (omega (arith, old.leased)) (λ w sound. refl)
    told false prints c.tell.ensures.refused
    (λ put w b is. with_pin_vault (outset_of n w) (n.origin w) b l story (g.K.Sink.held i.log.printer.sink) h (not i.log.printer.broken) i.log.refused (old.vault w b is) s number short.session short.command m c.clock.ensures (runs g c) at c.position-at.ensures c.in-Ok.ensures.opened asked version no_rows
    (due_alike N.script (N.start no_rows) (N.start w) h s number (command.Pin asked) First (N.alike w) refl (due_at g c)) (c.in-Ok.ensures.pinned s) (not later.printer.broken) (g.K.Sink.held later.printer.sink) put))

pub invariant_of-engine-2 : goal.invariant_of-engine-2
invariant_of-engine-2 g c = kept g c

pub returns-clause-turn : goal.returns-clause-turn
returns-clause-turn g c =
    let N = g.N.Naming in
    let n : Starts = starts_of N.script N.start N.sound N.origin N.since N.counted N.at_start in
    let i = c.engine.inside in
    let s = c.args.who.session in
    let number = c.args.who.command in
    let story = g.D.Disk.story i.disk in
    let h = i.log.history.items in
    let later = c.tell.new.self in
    let new : Shown = record { history = later.history.items; running = not later.printer.broken; clock = story.moment } in
    subst (λ (x : Standing). Takes N.script (N.start no_rows) x.shown new s number kind.Decide Finished) c.engine.view_is
    (simple_takes N.script (N.start no_rows) (record { history = h; running = not i.log.printer.broken; clock = story.moment }) new s number (record { asked = command.Pin c.args.asked; is = refl; due = due_at g c })
    (record {
      outcome = outcome.Stands;
      grew = c.tell.ensures.items ∙ ap (λ x. h ++ x ∷ []) c.turn-turn.ensures.same ∙ ap (λ x. h ++ entry s number kind.Decide outcome.Stands x ∷ []) c.clock.ensures;
      skipped = ap not (sym (runs g c));
      still = λ on. runs g c;
    })
    (vault_at_seen n c.pin.new.self.state story (g.K.Sink.held later.printer.sink) later.history.items (not later.printer.broken) later.refused story.moment (kept g c).vault))

pub returns-clause-disk : goal.returns-clause-disk
returns-clause-disk g c =
    let N = g.N.Naming in
    let i = c.engine.inside in
    let who = c.args.who in
    let story = g.D.Disk.story i.disk in
    let h = i.log.history.items in
    let later = c.tell.new.self in
    let new : Shown = record { history = later.history.items; running = not later.printer.broken; clock = story.moment } in
    subst (λ (x : Standing). AnswersDisk N.script (N.start no_rows) x.shown new ⊥) c.engine.view_is
    (disk_never N.script (N.start no_rows) (record { history = h; running = not i.log.printer.broken; clock = story.moment }) new (entry who.session who.command kind.Decide outcome.Stands c.clock.result)
    (c.tell.ensures.items ∙ ap (λ x. h ++ x ∷ []) c.turn-turn.ensures.same) refl)
