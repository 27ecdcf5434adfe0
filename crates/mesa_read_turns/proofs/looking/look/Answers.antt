use Rattle.std.proofs.Common.{◌≡◌, [], ◌∷◌, ◌++◌, Bool, true, false, not, refl, sym, ◌∙◌, ap, subst, arith}
use Rattle.mesa_batch.specs.Glance.{Sight, tables_of}
use Rattle.mesa_engine.specs.mesa_catalog.Lookups.{sight_of}
use Rattle.mesa_engine.specs.mesa_invariant_spec.Sight.{tables_seen}
use Rattle.mesa_engine.proofs.Seeing.{ok_also, tables_are_seen}
use Rattle.mesa_engine.specs.mesa_history_spec.Counting.{answers_disk}
use Rattle.mesa_engine.specs.mesa_history_spec.Replay.{closes}
use Rattle.mesa_engine.specs.mesa_history_spec.Run.{First, Looked}
use Rattle.mesa_engine.specs.mesa_history_spec.Turns.{IsDue}
use Rattle.mesa_model.specs.Entry.{IsShort}
use Rattle.mesa_model.specs.declared.commands.Command.TheVariants as command
use Rattle.mesa_model.specs.declared.entries.Entry.{Entry}
use Rattle.mesa_model.specs.declared.entries.Kind.TheVariants as kind
use Rattle.mesa_engine.specs.Vault.{Starts, outset_of}
use Rattle.mesa_engine.proofs.BeforeTurns.{vault_at_seen}
use Rattle.mesa_engine.specs.mesa_history_spec.Rows.{no_rows}
use Rattle.mesa_engine.specs.mesa_invariant_spec.Turns.{AnswersDisk, Asks, Shown, Takes, entry, is_load, looking}
use Rattle.mesa_engine.specs.mesa_invariant_spec.Undamaged.{is_damaged}
use Rattle.mesa_engine.specs.mesa_invariant_spec.Invariant.{run_at}
use Rattle.mesa_engine.proofs.mesa_invariant_spec.Alike.{due_alike}
use Rattle.mesa_engine.proofs.mesa_invariant_spec.Faulting.{disk_never}
use Rattle.mesa_engine.proofs.mesa_invariant_spec.Going.{look_takes}
use Rattle.mesa_engine.specs.Engine.{Standing, IsEngine, starts_of}
use Rattle.mesa_engine.proofs.Turning.{passed_engine}
use Rattle.mesa_read_turns.proofs.Looks.{load_of, looked_vault, skips}
use Rattle.mesa_read_turns.proofs.looking.look.Goals as goal

asks : (g : _) (c : goal.After-pass g) → Asks g.N.Naming.script (run_at g.N.Naming.script (g.N.Naming.start no_rows) c.engine.inside.log.history.items) c.args.who.session c.args.who.command First is_load
asks g c = subst (λ (s : Standing). Asks g.N.Naming.script (run_at g.N.Naming.script (g.N.Naming.start no_rows) s.shown.history) c.args.who.session c.args.who.command First is_load) (sym c.engine.view_is) c.requires.due

runs : (g : _) (c : goal.After-pass g) → not c.engine.inside.log.printer.broken ≡ true
runs g c = ap (λ (s : Standing). s.shown.running) c.engine.view_is ∙ c.requires.runs

turn_is : (g : _) (c : goal.After-pass g) → c.turn-turn.result ≡ entry c.args.who.session c.args.who.command kind.Look (looking true c.is_ok.result) c.clock.result
turn_is g c = c.turn-turn.ensures.same ∙ ap (λ o. entry c.args.who.session c.args.who.command kind.Look o c.clock.result) c.looking.ensures

look_undamaged : (found : Bool) → is_damaged (looking true found) ≡ false
look_undamaged true = refl
look_undamaged false = refl

look_unfaulted : (closing found : Bool) → answers_disk closing (looking true found) ≡ false
look_unfaulted closing true = refl
look_unfaulted closing false = refl

kept : (g : _) (c : goal.After-pass g)
    → IsEngine g.K.Sink.held g.K.Sink.faults (starts_of g.N.Naming.script g.N.Naming.start g.N.Naming.sound g.N.Naming.origin g.N.Naming.since g.N.Naming.counted g.N.Naming.at_start) g.N.Naming.room g.N.Naming.sink_faults c.engine.inside.metadata (g.D.Disk.story c.engine.inside.disk) c.pass.new.self
kept g c =
    let N = g.N.Naming in
    let n : Starts = starts_of N.script N.start N.sound N.origin N.since N.counted N.at_start in
    let i = c.engine.inside in
    let s = c.args.who.session in
    let number = c.args.who.command in
    let story = g.D.Disk.story i.disk in
    let h = i.log.history.items in
    let old = c.engine.invariant in
    let running = not i.log.printer.broken in
    let e : Entry = entry s number kind.Look (looking true c.is_ok.result) c.clock.result in
    let short : IsShort e = subst IsShort (turn_is g c) c.turn-turn.ensures.short in
    let due = asks g c in
    let load = load_of due.asked due.is in
    let loads : IsDue N.script (run_at N.script (N.start no_rows) h) s number (command.Load load.0) First = subst (λ x. IsDue N.script (run_at N.script (N.start no_rows) h) s number x First) load.1 due.due in
    passed_engine g.K.Sink.held g.K.Sink.faults n N.room N.sink_faults i.metadata i.metadata story story i.log c.pass.new.self e old
    (c.pass.ensures.items ∙ ap (λ x. h ++ x ∷ []) (turn_is g c)) c.pass.ensures.room c.clock.ensures (omega arith) (omega (arith, old.leased)) (λ w sound. look_undamaged c.is_ok.result) c.pass.ensures.printer c.pass.ensures.refused
    (λ w b is. looked_vault (outset_of n w) (n.origin w) b i.metadata.state story (g.K.Sink.held i.log.printer.sink) h running i.log.refused (old.vault w b is) s number short.session short.command c.clock.result c.clock.ensures (runs g c)
    load.0 (due_alike N.script (N.start no_rows) (N.start w) h s number (command.Load load.0) First (N.alike w) refl loads) c.is_ok.result)

pub invariant_of-engine : goal.invariant_of-engine
invariant_of-engine g c = kept g c

pub returns-clause-turn : goal.returns-clause-turn
returns-clause-turn g c =
    let N = g.N.Naming in
    let n : Starts = starts_of N.script N.start N.sound N.origin N.since N.counted N.at_start in
    let i = c.engine.inside in
    let s = c.args.who.session in
    let number = c.args.who.command in
    let story = g.D.Disk.story i.disk in
    let h = i.log.history.items in
    let running = not i.log.printer.broken in
    let later = c.pass.new.self in
    let new : Shown = record { history = later.history.items; running = not later.printer.broken; clock = story.moment } in
    subst (λ (x : Standing). Takes N.script (N.start no_rows) x.shown new s number kind.Look Looked) c.engine.view_is
    (look_takes N.script (N.start no_rows) (record { history = h; running = running; clock = story.moment }) new s number (asks g c)
    (record {
      outcome = looking true c.is_ok.result;
      grew = c.pass.ensures.items ∙ ap (λ x. h ++ x ∷ []) (turn_is g c) ∙ ap (λ m. h ++ entry s number kind.Look (looking true c.is_ok.result) m ∷ []) c.clock.ensures;
      skipped = skips c.is_ok.result ∙ ap not (sym (runs g c));
      still = λ on. sym (ap (λ p. not p.broken) c.pass.ensures.printer) ∙ on;
    })
    (vault_at_seen n i.metadata.state story (g.K.Sink.held later.printer.sink) later.history.items (not later.printer.broken) later.refused story.moment (kept g c).vault))

pub returns-clause-tables : goal.returns-clause-tables
returns-clause-tables g c =
    let N = g.N.Naming in
    let n : Starts = starts_of N.script N.start N.sound N.origin N.since N.counted N.at_start in
    let i = c.engine.inside in
    let l = i.metadata.state in
    let later = c.pass.new.self in
    let seen : tables_of (sight_of l.catalogue) ≡ tables_seen (run_at N.script (N.start no_rows) later.history.items) =
    tables_are_seen (outset_of n no_rows) (n.origin no_rows) false l (g.D.Disk.story i.disk) (g.K.Sink.held later.printer.sink) later.history.items _ later.refused ((kept g c).vault no_rows false (λ is. absurd cc)) in
    ok_also c.glance-glance.result (λ (x : Sight). x ≡ sight_of c.args.engine.now.state.catalogue) (λ (x : Sight). tables_of x ≡ tables_seen (run_at N.script (N.start no_rows) later.history.items))
    (λ (x : Sight) is. (let same : tables_of x ≡ tables_of (sight_of l.catalogue) = ap tables_of (is ∙ sym (ap (λ (s : Standing). sight_of s.state.catalogue) c.engine.view_is)) in same ∙ seen)) c.glance-glance.ensures.catalogue

pub returns-clause-disk : goal.returns-clause-disk
returns-clause-disk g c =
    let N = g.N.Naming in
    let i = c.engine.inside in
    let who = c.args.who in
    let story = g.D.Disk.story i.disk in
    let h = i.log.history.items in
    let running = not i.log.printer.broken in
    let later = c.pass.new.self in
    let new : Shown = record { history = later.history.items; running = not later.printer.broken; clock = story.moment } in
    let e : Entry = entry who.session who.command kind.Look (looking true c.is_ok.result) c.clock.result in
    subst (λ (x : Standing). AnswersDisk N.script (N.start no_rows) x.shown new ⊥) c.engine.view_is
    (disk_never N.script (N.start no_rows) (record { history = h; running = running; clock = story.moment }) new e (c.pass.ensures.items ∙ ap (λ x. h ++ x ∷ []) (turn_is g c))
    (look_unfaulted (closes (run_at N.script (N.start no_rows) h).moment e) c.is_ok.result))
