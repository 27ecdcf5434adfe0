use Rattle.std.proofs.Common.{◌≡◌, [], ◌∷◌, ◌++◌, true, false, not, refl, sym, ◌∙◌, ap, subst, arith}
use Rattle.mesa_engine.specs.mesa_history_spec.Refused.{is_refusal}
use Rattle.mesa_engine.specs.mesa_history_spec.Replay.{no_rows as no_lines}
use Rattle.mesa_engine.specs.mesa_history_spec.Run.{First, Finished}
use Rattle.mesa_engine.specs.mesa_history_spec.Turns.{IsDue}
use Rattle.mesa_model.specs.Entry.{IsShort}
use Rattle.mesa_model.specs.declared.commands.Command.TheVariants as command
use Rattle.mesa_model.specs.declared.entries.Entry.{Entry}
use Rattle.mesa_model.specs.declared.entries.Kind.TheVariants as kind
use Rattle.mesa_model.specs.declared.entries.Outcome.TheVariants as outcome
use Rattle.mesa_engine.specs.Vault.{Starts, outset_of}
use Rattle.mesa_engine.proofs.BeforeTurns.{vault_at_seen}
use Rattle.mesa_engine.specs.Printing.{PrintsBlock}
use Rattle.mesa_engine.specs.mesa_history_spec.Rows.{no_rows}
use Rattle.mesa_engine.specs.mesa_invariant_spec.Causes.{told_at}
use Rattle.mesa_engine.specs.mesa_invariant_spec.Turns.{AnswersDisk, Shown, Takes, entry}
use Rattle.mesa_engine.specs.mesa_invariant_spec.Invariant.{run_at}
use Rattle.mesa_engine.proofs.mesa_invariant_spec.Alike.{due_alike}
use Rattle.mesa_engine.proofs.mesa_invariant_spec.Faulting.{disk_never}
use Rattle.mesa_engine.proofs.mesa_invariant_spec.Going.{simple_takes}
use Rattle.mesa_engine.specs.Engine.{Standing, IsEngine, starts_of}
use Rattle.mesa_engine.proofs.Turning.{told_engine}
use Rattle.mesa_read_turns.proofs.Plans.{explained_vault}
use Rattle.mesa_read_turns.proofs.explaining.explain.Goals as goal

pub planned-requires : goal.planned-requires
planned-requires g c = (c.engine.invariant.vault no_rows false (λ is. absurd cc)).shaped

due_at : (g : _) (c : goal.After-drop-reply g) → IsDue g.N.Naming.script (run_at g.N.Naming.script (g.N.Naming.start no_rows) c.engine.inside.log.history.items) c.args.who.session c.args.who.command (command.Explain c.args.words.now) First
due_at g c = subst (λ (s : Standing). IsDue g.N.Naming.script (run_at g.N.Naming.script (g.N.Naming.start no_rows) s.shown.history) c.args.who.session c.args.who.command (command.Explain c.args.words.now) First) (sym c.engine.view_is) c.requires.due

runs : (g : _) (c : goal.After-drop-reply g) → not c.engine.inside.log.printer.broken ≡ true
runs g c = ap (λ (s : Standing). s.shown.running) c.engine.view_is ∙ c.requires.runs

kept : (g : _) (c : goal.After-drop-reply g)
    → IsEngine g.K.Sink.held g.K.Sink.faults (starts_of g.N.Naming.script g.N.Naming.start g.N.Naming.sound g.N.Naming.origin g.N.Naming.since g.N.Naming.counted g.N.Naming.at_start) g.N.Naming.room g.N.Naming.sink_faults c.engine.inside.metadata (g.D.Disk.story c.engine.inside.disk) c.tell.new.self
kept g c =
    let N = g.N.Naming in
    let n : Starts = starts_of N.script N.start N.sound N.origin N.since N.counted N.at_start in
    let i = c.engine.inside in
    let s = c.args.who.session in
    let number = c.args.who.command in
    let words = c.args.words.now in
    let l = i.metadata.state in
    let story = g.D.Disk.story i.disk in
    let h = i.log.history.items in
    let old = c.engine.invariant in
    let m = c.clock.result in
    let at = c.position-at.result in
    let later = c.tell.new.self in
    let rep = c.in-Ok.found.reply in
    let e : Entry = entry s number kind.Decide outcome.Stands m in
    let short : IsShort e = subst IsShort c.turn-turn.ensures.same c.turn-turn.ensures.short in
    let prints = subst (λ x. PrintsBlock g.K.Sink.held g.K.Sink.faults i.log.printer later.printer x (told_at at rep)) c.turn-turn.ensures.same (c.tell.ensures.told no_lines (c.deref.ensures.value ∙ c.in-Ok.ensures.lines)) in
    told_engine g.K.Sink.held g.K.Sink.faults n N.room N.sink_faults i.metadata i.metadata story story i.log later e old (c.tell.ensures.items ∙ ap (λ x. h ++ x ∷ []) c.turn-turn.ensures.same) c.tell.ensures.room c.clock.ensures (omega arith) (omega (arith, old.leased)) (λ w sound. refl)
    (told_at at rep) (is_refusal rep) prints c.tell.ensures.refused
    (λ put w b is. explained_vault (outset_of n w) (n.origin w) b l story (g.K.Sink.held i.log.printer.sink) h (not i.log.printer.broken) i.log.refused (old.vault w b is) s number short.session short.command m c.clock.ensures (runs g c) at c.position-at.ensures words rep no_rows
    (due_alike N.script (N.start no_rows) (N.start w) h s number (command.Explain words) First (N.alike w) refl (due_at g c)) c.in-Ok.ensures.explained (not later.printer.broken) (g.K.Sink.held later.printer.sink) put)

pub invariant_of-engine : goal.invariant_of-engine
invariant_of-engine g c = kept g c

pub returns-clause-turn : goal.returns-clause-turn
returns-clause-turn g c =
    let N = g.N.Naming in
    let n : Starts = starts_of N.script N.start N.sound N.origin N.since N.counted N.at_start in
    let i = c.engine.inside in
    let s = c.args.who.session in
    let number = c.args.who.command in
    let story = g.D.Disk.story i.disk in
    let h = i.log.history.items in
    let later = c.tell.new.self in
    let new : Shown = record { history = later.history.items; running = not later.printer.broken; clock = story.moment } in
    subst (λ (x : Standing). Takes N.script (N.start no_rows) x.shown new s number kind.Decide Finished) c.engine.view_is
    (simple_takes N.script (N.start no_rows) (record { history = h; running = not i.log.printer.broken; clock = story.moment }) new s number (record { asked = command.Explain c.args.words.now; is = refl; due = due_at g c })
    (record {
      outcome = outcome.Stands;
      grew = c.tell.ensures.items ∙ ap (λ x. h ++ x ∷ []) c.turn-turn.ensures.same ∙ ap (λ x. h ++ entry s number kind.Decide outcome.Stands x ∷ []) c.clock.ensures;
      skipped = ap not (sym (runs g c));
      still = λ on. runs g c;
    })
    (vault_at_seen n i.metadata.state story (g.K.Sink.held later.printer.sink) later.history.items (not later.printer.broken) later.refused story.moment (kept g c).vault))

pub returns-clause-disk : goal.returns-clause-disk
returns-clause-disk g c =
    let N = g.N.Naming in
    let i = c.engine.inside in
    let who = c.args.who in
    let story = g.D.Disk.story i.disk in
    let h = i.log.history.items in
    let later = c.tell.new.self in
    let new : Shown = record { history = later.history.items; running = not later.printer.broken; clock = story.moment } in
    subst (λ (x : Standing). AnswersDisk N.script (N.start no_rows) x.shown new ⊥) c.engine.view_is
    (disk_never N.script (N.start no_rows) (record { history = h; running = not i.log.printer.broken; clock = story.moment }) new (entry who.session who.command kind.Decide outcome.Stands c.clock.result)
    (c.tell.ensures.items ∙ ap (λ x. h ++ x ∷ []) c.turn-turn.ensures.same) refl)
