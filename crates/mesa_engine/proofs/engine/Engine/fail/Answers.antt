use Rattle.std.proofs.Common.{◌≡◌, ◌∷◌, ◌++◌, [], length, true, false, ◌||◌, not, refl, sym, ◌∙◌, subst, arith, Some}
use Rattle.mesa_invariant_spec.specs.mesa_history_spec.Refused.{is_refusal}
use Rattle.mesa_invariant_spec.specs.mesa_history_spec.Replay.{closes}
use Rattle.mesa_invariant_spec.specs.mesa_history_spec.Run.{Finished}
use Rattle.mesa_engine.specs.EngineState.{books_of}
use Rattle.mesa_engine.specs.Vault.{Starts, IsVault, outset_of}
use Rattle.mesa_engine.proofs.BeforeTurns.{vault_at_seen}
use Rattle.mesa_engine.specs.Failure.{cause_in}
use Rattle.mesa_invariant_spec.specs.mesa_history_spec.Output.{block}
use Rattle.mesa_invariant_spec.specs.mesa_history_spec.Rows.{no_rows}
use Rattle.mesa_invariant_spec.specs.Causes.{outcome_of, reply_of, told_at}
use Rattle.mesa_invariant_spec.specs.Printing.{IsPut}
use Rattle.mesa_invariant_spec.specs.Turns.{AnswersDisk, AnswersDraft, Shown, Takes, entry}
use Rattle.mesa_invariant_spec.specs.Invariant.{run_at}
use Rattle.mesa_invariant_spec.proofs.Alike.{due_alike}
use Rattle.mesa_invariant_spec.proofs.Faulting.{disk_never}
use Rattle.mesa_engine.specs.Engine.{Standing, IsEngine, starts_of}
use Rattle.mesa_engine.specs.Failing.{Fails, deciding_stage, deciding_kind}
use Rattle.mesa_engine.proofs.Drafting.{answers_none, quiet_cause, quiet_disk}
use Rattle.mesa_engine.proofs.Undone.{deciding_unanswered, failing_vault, failing_takes, quiet_undamaged}
use Rattle.mesa_engine.proofs.Turning.{told_engine}
use Rattle.mesa_engine.proofs.engine.Engine.fail.Goals as goal

fails_at : (g : _) (c : goal.After-fail g)
    → Fails g.N.Naming.script (run_at g.N.Naming.script (g.N.Naming.start no_rows) c.self.inside.log.history.items) (books_of no_rows c.self.inside.metadata.state) (length c.self.inside.log.history.items) c.args.who.session c.args.who.command c.args.kind (cause_in c.args.failure)
fails_at g c =
    subst (λ (s : Standing). Fails g.N.Naming.script (run_at g.N.Naming.script (g.N.Naming.start no_rows) s.shown.history) (books_of no_rows s.state) (length s.shown.history) c.args.who.session c.args.who.command c.args.kind (cause_in c.args.failure))
    (sym c.self.view_is) c.requires.fails

runs : (g : _) (c : goal.After-fail g) → not c.self.inside.log.printer.broken ≡ true
runs g c = subst (λ (s : Standing). s.shown.running ≡ true) (sym c.self.view_is) c.requires.runs

kept : (g : _) (c : goal.After-fail g)
    → IsEngine g.K.Sink.held g.K.Sink.faults (starts_of g.N.Naming.script g.N.Naming.start g.N.Naming.sound g.N.Naming.origin g.N.Naming.since g.N.Naming.counted g.N.Naming.at_start) g.N.Naming.room g.N.Naming.sink_faults c.self.inside.metadata (g.D.Disk.story c.self.inside.disk) c.fail.new.self
kept g c =
    let N = g.N.Naming in
    let n : Starts = starts_of N.script N.start N.sound N.origin N.since N.counted N.at_start in
    let i = c.self.inside in
    let s = c.args.who.session in
    let number = c.args.who.command in
    let l = i.metadata.state in
    let story = g.D.Disk.story i.disk in
    let h = i.log.history.items in
    let old = c.self.invariant in
    let cause = cause_in c.args.failure in
    let m = c.clock-moment.result in
    let later = c.fail.new.self in
    let held = g.K.Sink.held i.log.printer.sink in
    let new_held = g.K.Sink.held later.printer.sink in
    let now = not later.printer.broken in
    let fails = fails_at g c in
    told_engine g.K.Sink.held g.K.Sink.faults n N.room N.sink_faults i.metadata i.metadata story story i.log later (entry s number c.args.kind (outcome_of cause) m) old
    c.fail.ensures.items c.fail.ensures.room c.clock-moment.ensures (omega arith) (omega (arith, old.leased)) (λ w sound. quiet_undamaged cause fails.quiet)
    (told_at (length h) (reply_of cause)) (is_refusal (reply_of cause)) c.fail.ensures.told c.fail.ensures.refused
    (λ put w b is. subst (λ k. IsPut (block (entry s number k (outcome_of cause) m) (Some (told_at (length h) (reply_of cause)))) now held new_held → IsVault (outset_of n w) (n.origin w) b l story new_held (h ++ entry s number k (outcome_of cause) m ∷ []) now (i.log.refused || is_refusal (reply_of cause)))
    (sym fails.decides)
    (failing_vault (outset_of n w) (n.origin w) b l story held h (not i.log.printer.broken) i.log.refused (old.vault w b is) s number c.fail.ensures.short.session c.fail.ensures.short.command m c.clock-moment.ensures (runs g c) (length h) refl no_rows
    fails.asked (due_alike N.script (N.start no_rows) (N.start w) h s number fails.asked (deciding_stage fails.asked) (N.alike w) (deciding_unanswered fails.asked) fails.due) cause fails.why fails.quiet now new_held)
    put)

pub invariant_of-self : goal.invariant_of-self
invariant_of-self g c = kept g c

pub returns-clause-turn : goal.returns-clause-turn
returns-clause-turn g c =
    let N = g.N.Naming in
    let n : Starts = starts_of N.script N.start N.sound N.origin N.since N.counted N.at_start in
    let i = c.self.inside in
    let s = c.args.who.session in
    let number = c.args.who.command in
    let l = i.metadata.state in
    let story = g.D.Disk.story i.disk in
    let h = i.log.history.items in
    let old = c.self.invariant in
    let cause = cause_in c.args.failure in
    let later = c.fail.new.self in
    let held = g.K.Sink.held i.log.printer.sink in
    let new : Shown = record { history = later.history.items; running = not later.printer.broken; clock = story.moment } in
    let fails = fails_at g c in
    subst (λ k. Takes N.script (N.start no_rows) c.args.self.now.shown new s number k Finished) (sym fails.decides)
    (subst (λ (x : Standing). Takes N.script (N.start no_rows) x.shown new s number (deciding_kind fails.asked) Finished) c.self.view_is
    (failing_takes (outset_of n no_rows) (n.origin no_rows) false l story held h (not i.log.printer.broken) i.log.refused (old.vault no_rows false (λ is. absurd cc)) s number c.fail.ensures.short.session c.fail.ensures.short.command (runs g c) (length h) refl story.moment new refl
    (vault_at_seen n l story (g.K.Sink.held later.printer.sink) later.history.items (not later.printer.broken) later.refused story.moment (kept g c).vault) no_rows fails.asked fails.due cause fails.why
    (c.fail.ensures.items ∙ (λ j. h ++ entry s number (fails.decides j) (outcome_of cause) (c.clock-moment.ensures j) ∷ []))))

pub returns-clause-draft : goal.returns-clause-draft
returns-clause-draft g c =
    let N = g.N.Naming in
    let i = c.self.inside in
    let who = c.args.who in
    let story = g.D.Disk.story i.disk in
    let h = i.log.history.items in
    let cause = cause_in c.args.failure in
    let later = c.fail.new.self in
    let new : Shown = record { history = later.history.items; running = not later.printer.broken; clock = story.moment } in
    let e = entry who.session who.command c.args.kind (outcome_of cause) c.clock-moment.result in
    subst (λ (s : Standing). AnswersDraft N.script (N.start no_rows) s.shown new who.session ⊥) c.self.view_is
    (answers_none N.script (N.start no_rows) (record { history = h; running = not i.log.printer.broken; clock = story.moment }) new who.session e c.fail.ensures.items
    (quiet_cause (closes (run_at N.script (N.start no_rows) h).moment e) cause (fails_at g c).quiet))

pub returns-clause-disk : goal.returns-clause-disk
returns-clause-disk g c =
    let N = g.N.Naming in
    let i = c.self.inside in
    let who = c.args.who in
    let story = g.D.Disk.story i.disk in
    let h = i.log.history.items in
    let cause = cause_in c.args.failure in
    let later = c.fail.new.self in
    let new : Shown = record { history = later.history.items; running = not later.printer.broken; clock = story.moment } in
    let e = entry who.session who.command c.args.kind (outcome_of cause) c.clock-moment.result in
    subst (λ (s : Standing). AnswersDisk N.script (N.start no_rows) s.shown new ⊥) c.self.view_is
    (disk_never N.script (N.start no_rows) (record { history = h; running = not i.log.printer.broken; clock = story.moment }) new e c.fail.ensures.items
    (quiet_disk (closes (run_at N.script (N.start no_rows) h).moment e) cause (fails_at g c).quiet))
