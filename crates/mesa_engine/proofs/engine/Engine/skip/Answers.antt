use Rattle.std.proofs.Common.{◌≡◌, [], ◌∷◌, ◌++◌, false, not, refl, sym, ◌∙◌, ap, subst, arith}
use Rattle.mesa_model.specs.Entry.{IsShort}
use Rattle.mesa_model.specs.declared.entries.Outcome.TheVariants as outcome
use Rattle.mesa_engine.specs.Vault.{Starts, outset_of}
use Rattle.mesa_engine.proofs.BeforeTurns.{vault_at_seen}
use Rattle.mesa_invariant_spec.specs.mesa_history_spec.Rows.{Rows, no_rows}
use Rattle.mesa_invariant_spec.specs.Turns.{AnswersDisk, AnswersDraft, Shown, Takes, entry}
use Rattle.mesa_invariant_spec.specs.Invariant.{run_at}
use Rattle.mesa_invariant_spec.proofs.Faulting.{disk_never}
use Rattle.mesa_engine.specs.Engine.{Standing, IsEngine, starts_of}
use Rattle.mesa_engine.specs.Failing.{Comes}
use Rattle.mesa_engine.proofs.Drafting.{answers_none}
use Rattle.mesa_engine.proofs.Undone.{skipped_vault}
use Rattle.mesa_engine.proofs.Turning.{passed_engine, skipped_takes}
use Rattle.mesa_engine.proofs.engine.Engine.skip.Goals as goal

due_at : (g : _) (c : goal.After-pass g) (w : Rows) → Comes g.N.Naming.script (run_at g.N.Naming.script (g.N.Naming.start w) c.self.inside.log.history.items) c.args.who.session c.args.who.command c.args.kind
due_at g c = subst (λ (s : Standing). (w : Rows) → Comes g.N.Naming.script (run_at g.N.Naming.script (g.N.Naming.start w) s.shown.history) c.args.who.session c.args.who.command c.args.kind) (sym c.self.view_is) c.requires.due

has_failed : (g : _) (c : goal.After-pass g) → not c.self.inside.log.printer.broken ≡ false
has_failed g c = subst (λ (s : Standing). s.shown.running ≡ false) (sym c.self.view_is) c.requires.failed

kept : (g : _) (c : goal.After-pass g)
    → IsEngine g.K.Sink.held g.K.Sink.faults (starts_of g.N.Naming.script g.N.Naming.start g.N.Naming.sound g.N.Naming.origin g.N.Naming.since g.N.Naming.counted g.N.Naming.at_start) g.N.Naming.room g.N.Naming.sink_faults c.self.inside.metadata (g.D.Disk.story c.self.inside.disk) c.pass.new.self
kept g c =
    let N = g.N.Naming in
    let n : Starts = starts_of N.script N.start N.sound N.origin N.since N.counted N.at_start in
    let i = c.self.inside in
    let who = c.args.who in
    let story = g.D.Disk.story i.disk in
    let h = i.log.history.items in
    let old = c.self.invariant in
    let e = entry who.session who.command c.args.kind outcome.Skipped c.clock.result in
    let short : IsShort e = subst IsShort c.turn-turn.ensures.same c.turn-turn.ensures.short in
    passed_engine g.K.Sink.held g.K.Sink.faults n N.room N.sink_faults i.metadata i.metadata story story i.log c.pass.new.self e old
    (c.pass.ensures.items ∙ ap (λ x. h ++ x ∷ []) c.turn-turn.ensures.same) c.pass.ensures.room c.clock.ensures (omega arith) (omega (arith, old.leased)) (λ w sound. refl) c.pass.ensures.printer c.pass.ensures.refused
    (λ w b is. skipped_vault (outset_of n w) (n.origin w) b i.metadata.state story (g.K.Sink.held i.log.printer.sink) h (not i.log.printer.broken) i.log.refused (old.vault w b is)
    who.session who.command short.session short.command c.clock.result c.clock.ensures (due_at g c w).asked (due_at g c w).stage c.args.kind (due_at g c w).due (due_at g c w).comes (has_failed g c))

pub invariant_of-self : goal.invariant_of-self
invariant_of-self g c = kept g c

pub returns-clause-turn : goal.returns-clause-turn
returns-clause-turn g c stage =
    let N = g.N.Naming in
    let n : Starts = starts_of N.script N.start N.sound N.origin N.since N.counted N.at_start in
    let i = c.self.inside in
    let who = c.args.who in
    let story = g.D.Disk.story i.disk in
    let h = i.log.history.items in
    let later = c.pass.new.self in
    let new : Shown = record { history = later.history.items; running = not later.printer.broken; clock = story.moment } in
    let due = due_at g c no_rows in
    subst (λ (s : Standing). Takes N.script (N.start no_rows) s.shown new who.session who.command c.args.kind stage) c.self.view_is
    (skipped_takes N.script (N.start no_rows) (record { history = h; running = not i.log.printer.broken; clock = story.moment }) new who.session who.command due.asked due.stage c.args.kind stage due.due
    (c.pass.ensures.items ∙ ap (λ x. h ++ x ∷ []) c.turn-turn.ensures.same ∙ ap (λ m. h ++ entry who.session who.command c.args.kind outcome.Skipped m ∷ []) c.clock.ensures)
    (has_failed g c) (λ on. sym (ap (λ p. not p.broken) c.pass.ensures.printer) ∙ on)
    (vault_at_seen n i.metadata.state story (g.K.Sink.held later.printer.sink) later.history.items (not later.printer.broken) later.refused story.moment (kept g c).vault))

pub returns-clause-draft : goal.returns-clause-draft
returns-clause-draft g c =
    let N = g.N.Naming in
    let i = c.self.inside in
    let who = c.args.who in
    let story = g.D.Disk.story i.disk in
    let h = i.log.history.items in
    let later = c.pass.new.self in
    let new : Shown = record { history = later.history.items; running = not later.printer.broken; clock = story.moment } in
    subst (λ (s : Standing). AnswersDraft N.script (N.start no_rows) s.shown new who.session ⊥) c.self.view_is
    (answers_none N.script (N.start no_rows) (record { history = h; running = not i.log.printer.broken; clock = story.moment }) new who.session (entry who.session who.command c.args.kind outcome.Skipped c.clock.result)
    (c.pass.ensures.items ∙ ap (λ x. h ++ x ∷ []) c.turn-turn.ensures.same) refl)

pub returns-clause-disk : goal.returns-clause-disk
returns-clause-disk g c =
    let N = g.N.Naming in
    let i = c.self.inside in
    let who = c.args.who in
    let story = g.D.Disk.story i.disk in
    let h = i.log.history.items in
    let later = c.pass.new.self in
    let new : Shown = record { history = later.history.items; running = not later.printer.broken; clock = story.moment } in
    subst (λ (s : Standing). AnswersDisk N.script (N.start no_rows) s.shown new ⊥) c.self.view_is
    (disk_never N.script (N.start no_rows) (record { history = h; running = not i.log.printer.broken; clock = story.moment }) new (entry who.session who.command c.args.kind outcome.Skipped c.clock.result)
    (c.pass.ensures.items ∙ ap (λ x. h ++ x ∷ []) c.turn-turn.ensures.same) refl)
