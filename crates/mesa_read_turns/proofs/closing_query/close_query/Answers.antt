use Rattle.std.proofs.Common.{◌≡◌, ◌∷◌, ◌++◌, [], true, not, refl, sym, ◌∙◌, ap, subst}
use Rattle.mesa_engine.specs.mesa_history_spec.Replay.{closes}
use Rattle.mesa_engine.specs.mesa_history_spec.Run.{Finished}
use Rattle.mesa_model.specs.Query.{Answer}
use Rattle.mesa_model.specs.declared.entries.Kind.TheVariants as kind
use Rattle.mesa_engine.specs.mesa_history_spec.Rows.{Rows, no_rows}
use Rattle.mesa_engine.specs.Vault.{Starts}
use Rattle.mesa_engine.proofs.BeforeTurns.{vault_at_seen}
use Rattle.mesa_open_files.specs.GivingBack.{pinned_inputs}
use Rattle.mesa_engine.specs.mesa_invariant_spec.Printing.{IsPut}
use Rattle.mesa_engine.specs.mesa_invariant_spec.Queries.{closing_fault}
use Rattle.mesa_engine.specs.mesa_invariant_spec.Turns.{AnswersDisk, Shown, SomeRose, Takes, faults_of}
use Rattle.mesa_engine.specs.mesa_invariant_spec.Invariant.{Counts, run_at}
use Rattle.mesa_engine.proofs.mesa_invariant_spec.Faulting.{disk_counted}
use Rattle.mesa_engine.specs.Engine.{Standing, IsEngine, starts_of}
use Rattle.mesa_read_turns.specs.Closing.{IsPageOf, IsSomePageOf, IsToClose, cause_if, closing_entry, closing_text}
use Rattle.mesa_read_turns.proofs.Closes.{closed_engine, closed_takes, closing_answers, given_counts, shows_answer, tells_answer}
use Rattle.mesa_read_turns.proofs.closing_query.close_query.Goals as goal

due_at : (g : _) (c : goal.After-print g) (w : Rows)
    → IsToClose g.N.Naming.script (run_at g.N.Naming.script (g.N.Naming.start w) c.engine.inside.log.history.items) c.args.who.session c.args.who.command c.args.pinned.at
    (λ (answer : Answer). IsSomePageOf c.args.answered c.args.pinned.version answer × (g.N.Naming.sound w → IsPageOf c.args.answered c.args.pinned.version answer))
due_at g c w =
    subst (λ (s : Standing). IsToClose g.N.Naming.script (run_at g.N.Naming.script (g.N.Naming.start w) s.shown.history) c.args.who.session c.args.who.command c.args.pinned.at
    (λ (answer : Answer). IsSomePageOf c.args.answered c.args.pinned.version answer × (g.N.Naming.sound w → IsPageOf c.args.answered c.args.pinned.version answer))) (sym c.engine.view_is) (c.requires.due w)

runs : (g : _) (c : goal.After-print g) → not c.engine.inside.log.printer.broken ≡ true
runs g c = ap (λ (s : Standing). s.shown.running) c.engine.view_is ∙ c.requires.runs

moment_is : (g : _) (c : goal.After-print g) → c.clock-moment.result ≡ (g.D.Disk.story c.engine.inside.disk).moment
moment_is g c = c.clock-moment.ensures ∙ c.retire_pinned.ensures.unmoved.moment

kept : (g : _) (c : goal.After-print g)
    → IsEngine g.K.Sink.held g.K.Sink.faults (starts_of g.N.Naming.script g.N.Naming.start g.N.Naming.sound g.N.Naming.origin g.N.Naming.since g.N.Naming.counted g.N.Naming.at_start) g.N.Naming.room g.N.Naming.sink_faults c.close_query.new.self (g.D.Disk.story c.retire_pinned.new.disk) c.print.new.log
kept g c =
    let N = g.N.Naming in
    let n : Starts = starts_of N.script N.start N.sound N.origin N.since N.counted N.at_start in
    let i = c.engine.inside in
    let s = c.args.who.session in
    let number = c.args.who.command in
    let answered = c.args.answered in
    let at = c.args.pinned.at in
    let version = c.args.pinned.version in
    let story = g.D.Disk.story i.disk in
    let new = g.D.Disk.story c.retire_pinned.new.disk in
    let mo = c.clock-moment.result in
    closed_engine g.K.Sink.held g.K.Sink.faults n N.room N.sink_faults i.metadata c.close_query.new.self story new i.log c.print.new.log c.engine.invariant s number c.print.ensures.short.session c.print.ensures.short.command mo (moment_is g c) (runs g c) c.retire_pinned.ensures.unmoved at
    (λ (w : Rows) (answer : Answer). IsSomePageOf answered version answer × (N.sound w → IsPageOf answered version answer)) (due_at g c) (cause_if answered) c.may_be_told.ensures
    (given_counts g.D.Reader.FileReader.faults (pinned_inputs c.args.pinned) story new (closing_fault (cause_if answered)) c.retire_pinned.ensures.given c.requires.read)
    c.print.ensures.items c.print.ensures.room c.close_query.ensures c.requires.undamaged (closing_text (closing_entry s number answered mo) at version answered)
    (λ w. shows_answer s number mo at version answered (due_at g c w).opened.answer (due_at g c w).opened.told.0)
    (λ w sound low. tells_answer s number mo at version answered (due_at g c w).opened.answer ((due_at g c w).opened.told.1 sound))
    c.print.ensures.put c.print.ensures.goes c.print.ensures.refused

pub invariant_of-engine : goal.invariant_of-engine
invariant_of-engine g c = kept g c

pub returns-clause-turn : goal.returns-clause-turn
returns-clause-turn g c =
    let N = g.N.Naming in
    let n : Starts = starts_of N.script N.start N.sound N.origin N.since N.counted N.at_start in
    let i = c.engine.inside in
    let s = c.args.who.session in
    let number = c.args.who.command in
    let story = g.D.Disk.story i.disk in
    let new_story = g.D.Disk.story c.retire_pinned.new.disk in
    let h = i.log.history.items in
    let later = c.print.new.log in
    let new : Shown = record { history = later.history.items; running = not later.printer.broken; clock = new_story.moment } in
    subst (λ (x : Standing). Takes N.script (N.start no_rows) x.shown new s number kind.Close Finished) c.engine.view_is
    (closed_takes N.script (N.start no_rows) (record { history = h; running = not i.log.printer.broken; clock = story.moment }) new s number c.args.pinned.at
    (λ (answer : Answer). IsSomePageOf c.args.answered c.args.pinned.version answer × (N.sound no_rows → IsPageOf c.args.answered c.args.pinned.version answer)) (due_at g c no_rows) (cause_if c.args.answered)
    (c.print.ensures.items ∙ ap (λ x. h ++ closing_entry s number c.args.answered x ∷ []) c.clock-moment.ensures) (runs g c)
    (vault_at_seen n c.close_query.new.self.state new_story (g.K.Sink.held later.printer.sink) later.history.items (not later.printer.broken) later.refused new_story.moment (kept g c).vault))

pub returns-clause-outcome : goal.returns-clause-outcome
returns-clause-outcome g c =
    let h = c.engine.inside.log.history.items in
    let s = c.args.who.session in
    let number = c.args.who.command in
    let now = (g.D.Disk.story c.retire_pinned.new.disk).moment in
    subst (λ (x : Standing). c.print.new.log.history.items ≡ x.shown.history ++ closing_entry s number c.args.answered now ∷ []) c.engine.view_is
    (c.print.ensures.items ∙ ap (λ x. h ++ closing_entry s number c.args.answered x ∷ []) c.clock-moment.ensures)

pub returns-clause-disk : goal.returns-clause-disk
returns-clause-disk g c =
    let N = g.N.Naming in
    let i = c.engine.inside in
    let h = i.log.history.items in
    let answered = c.args.answered in
    let story = g.D.Disk.story i.disk in
    let new_story = g.D.Disk.story c.retire_pinned.new.disk in
    let later = c.print.new.log in
    let e = closing_entry c.args.who.session c.args.who.command answered c.clock-moment.result in
    let counts = given_counts g.D.Reader.FileReader.faults (pinned_inputs c.args.pinned) story new_story (closing_fault (cause_if answered)) c.retire_pinned.ensures.given c.requires.read in
    let new : Shown = record { history = later.history.items; running = not later.printer.broken; clock = new_story.moment } in
    subst (λ (x : Standing). AnswersDisk N.script (N.start no_rows) x.shown new (SomeRose x.faults (faults_of new_story))) c.engine.view_is
    (disk_counted N.script (N.start no_rows) (record { history = h; running = not i.log.printer.broken; clock = story.moment }) new e c.print.ensures.items story new_story refl
    (subst (Counts story new_story) (sym (closing_answers (closes (run_at N.script (N.start no_rows) h).moment e) answered)) counts))

pub returns-clause-prints : goal.returns-clause-prints
returns-clause-prints g c =
    let s = c.args.who.session in
    let number = c.args.who.command in
    let answered = c.args.answered in
    let at = c.args.pinned.at in
    let version = c.args.pinned.version in
    let later = c.print.new.log.printer in
    let now = g.K.Sink.held later.sink in
    subst (λ (x : Standing). IsPut (closing_text (closing_entry s number answered (g.D.Disk.story c.retire_pinned.new.disk).moment) at version answered) (not later.broken) x.sink now) c.engine.view_is
    (subst (λ m. IsPut (closing_text (closing_entry s number answered m) at version answered) (not later.broken) (g.K.Sink.held c.engine.inside.log.printer.sink) now) c.clock-moment.ensures c.print.ensures.put)
