use Rattle.std.proofs.Common.{◌≡◌, [], ◌∷◌, ◌++◌, true, false, not, refl, sym, ◌∙◌, ap, subst}
use Rattle.mesa_write_turns.specs.mesa_history_spec.Replay.{no_rows as no_lines}
use Rattle.mesa_write_turns.specs.mesa_history_spec.Run.{Granted, Renewed, Finished}
use Rattle.mesa_write_turns.specs.mesa_history_spec.Turns.{IsDue}
use Rattle.mesa_model.specs.Entry.{IsShort}
use Rattle.mesa_model.specs.declared.entries.Kind.TheVariants as kind
use Rattle.mesa_model.specs.declared.entries.Outcome.TheVariants as outcome
use Rattle.mesa_model.specs.declared.replies.Reply.TheVariants as reply
use Rattle.mesa_engine.specs.Vault.{Starts, outset_of}
use Rattle.mesa_engine.proofs.BeforeTurns.{vault_at_seen}
use Rattle.mesa_engine.specs.Printing.{PrintsBlock}
use Rattle.mesa_write_turns.specs.mesa_history_spec.Rows.{no_rows}
use Rattle.mesa_write_turns.specs.mesa_invariant_spec.Causes.{told_at}
use Rattle.mesa_write_turns.specs.mesa_invariant_spec.Turns.{AnswersDisk, Shown, Takes, entry}
use Rattle.mesa_write_turns.specs.mesa_invariant_spec.Invariant.{run_at}
use Rattle.mesa_write_turns.proofs.mesa_invariant_spec.Alike.{due_alike}
use Rattle.mesa_write_turns.proofs.mesa_invariant_spec.Faulting.{disk_never}
use Rattle.mesa_engine.specs.Engine.{Standing, starts_of}
use Rattle.mesa_work_turns.specs.Claims.{claim_with}
use Rattle.mesa_work_turns.proofs.Renewals.{lost_engine, lost_takes, renewed_engine, renewed_takes}
use Rattle.mesa_work_turns.proofs.renewing.renew_lease.Goals as goal

pub invariant_of-engine : goal.invariant_of-engine
invariant_of-engine g c =
    let N = g.N.Naming in
    let n : Starts = starts_of N.script N.start N.sound N.origin N.since N.counted N.at_start in
    let i = c.engine.inside in
    let s = c.args.who.session in
    let number = c.args.who.command in
    let asked = c.requires.due.0 in
    let one = c.requires.due.2 in
    let claim = claim_with c.args.table c.args.lease c.requires.due.1 in
    let h = i.log.history.items in
    let short : IsShort (entry s number kind.Renew outcome.Stands c.clock.result) = subst IsShort c.turn-turn.ensures.same c.turn-turn.ensures.short in
    let due : IsDue N.script (run_at N.script (N.start no_rows) h) s number asked (Granted claim) = subst (λ (x : Standing). IsDue N.script (run_at N.script (N.start no_rows) x.shown.history) s number asked (Granted claim)) (sym c.engine.view_is) c.requires.due.3 in
    let ran : not i.log.printer.broken ≡ true = ap (λ (x : Standing). x.shown.running) c.engine.view_is ∙ c.requires.runs in
    renewed_engine g.K.Sink.held g.K.Sink.faults n N.room N.sink_faults i.metadata c.claims-claimed.new.metadata (g.D.Disk.story i.disk) i.log c.pass.new.self c.engine.invariant s number short.session short.command asked one c.clock.result c.clock.ensures ran c.position-at.result c.position-at.ensures claim
    (λ w. due_alike N.script (N.start no_rows) (N.start w) h s number asked (Granted claim) (N.alike w) refl due)
    (c.pass.ensures.items ∙ ap (λ x. h ++ x ∷ []) c.turn-turn.ensures.same) c.pass.ensures.room c.in-Ok.ensures.held c.in-Ok.ensures.renewed c.pass.ensures.printer c.pass.ensures.refused

pub invariant_of-engine-in-Err : goal.invariant_of-engine-in-Err
invariant_of-engine-in-Err g c =
    let N = g.N.Naming in
    let n : Starts = starts_of N.script N.start N.sound N.origin N.since N.counted N.at_start in
    let i = c.engine.inside in
    let s = c.args.who.session in
    let number = c.args.who.command in
    let asked = c.requires.due.0 in
    let one = c.requires.due.2 in
    let claim = claim_with c.args.table c.args.lease c.requires.due.1 in
    let h = i.log.history.items in
    let later = c.tell.new.self in
    let short : IsShort (entry s number kind.Renew outcome.Stands c.clock.result) = subst IsShort c.turn-turn.ensures.same c.turn-turn.ensures.short in
    let due : IsDue N.script (run_at N.script (N.start no_rows) h) s number asked (Granted claim) = subst (λ (x : Standing). IsDue N.script (run_at N.script (N.start no_rows) x.shown.history) s number asked (Granted claim)) (sym c.engine.view_is) c.requires.due.3 in
    let ran : not i.log.printer.broken ≡ true = ap (λ (x : Standing). x.shown.running) c.engine.view_is ∙ c.requires.runs in
    let prints = subst (λ x. PrintsBlock g.K.Sink.held g.K.Sink.faults i.log.printer later.printer x (told_at c.position-at.result (reply.Refused c.in-Err.refusal))) c.turn-turn.ensures.same (c.tell.ensures.told no_lines refl) in
    lost_engine g.K.Sink.held g.K.Sink.faults n N.room N.sink_faults i.metadata c.claims-claimed.new.metadata (g.D.Disk.story i.disk) i.log later c.engine.invariant s number short.session short.command asked one c.clock.result c.clock.ensures ran c.position-at.result c.position-at.ensures claim
    (λ w. due_alike N.script (N.start no_rows) (N.start w) h s number asked (Granted claim) (N.alike w) refl due)
    (c.tell.ensures.items ∙ ap (λ x. h ++ x ∷ []) c.turn-turn.ensures.same) c.tell.ensures.room c.in-Err.refusal c.in-Err.ensures.refused c.in-Err.ensures.same c.claims-claimed.ensures.leased prints c.tell.ensures.refused

pub returns-in-Ok-clause-turn : goal.returns-in-Ok-clause-turn
returns-in-Ok-clause-turn g c = λ asked errand one due_old.
    let N = g.N.Naming in
    let n : Starts = starts_of N.script N.start N.sound N.origin N.since N.counted N.at_start in
    let i = c.engine.inside in
    let s = c.args.who.session in
    let number = c.args.who.command in
    let claim = claim_with c.args.table c.args.lease errand in
    let story = g.D.Disk.story i.disk in
    let h = i.log.history.items in
    let later = c.pass.new.self in
    let held = g.K.Sink.held i.log.printer.sink in
    let short : IsShort (entry s number kind.Renew outcome.Stands c.clock.result) = subst IsShort c.turn-turn.ensures.same c.turn-turn.ensures.short in
    let due : IsDue N.script (run_at N.script (N.start no_rows) h) s number asked (Granted claim) = subst (λ (x : Standing). IsDue N.script (run_at N.script (N.start no_rows) x.shown.history) s number asked (Granted claim)) (sym c.engine.view_is) due_old in
    let ran : not i.log.printer.broken ≡ true = ap (λ (x : Standing). x.shown.running) c.engine.view_is ∙ c.requires.runs in
    let grew = c.pass.ensures.items ∙ ap (λ x. h ++ x ∷ []) c.turn-turn.ensures.same in
    let kept = renewed_engine g.K.Sink.held g.K.Sink.faults n N.room N.sink_faults i.metadata c.claims-claimed.new.metadata story i.log later c.engine.invariant s number short.session short.command asked one c.clock.result c.clock.ensures ran c.position-at.result c.position-at.ensures claim
    (λ w. due_alike N.script (N.start no_rows) (N.start w) h s number asked (Granted claim) (N.alike w) refl due)
    grew c.pass.ensures.room c.in-Ok.ensures.held c.in-Ok.ensures.renewed c.pass.ensures.printer c.pass.ensures.refused in
    let new : Shown = record { history = later.history.items; running = not later.printer.broken; clock = story.moment } in
    subst (λ (x : Standing). Takes N.script (N.start no_rows) x.shown new s number kind.Renew (Renewed claim)) c.engine.view_is
    (renewed_takes (outset_of n no_rows) (n.origin no_rows) false i.metadata.state story held h (not i.log.printer.broken) i.log.refused (c.engine.invariant.vault no_rows false (λ is. absurd cc)) s number short.session short.command asked one ran c.position-at.result c.position-at.ensures claim due story.moment new refl
    (vault_at_seen n c.claims-claimed.new.metadata.state story (g.K.Sink.held later.printer.sink) later.history.items (not later.printer.broken) later.refused story.moment kept.vault)
    (grew ∙ ap (λ x. h ++ entry s number kind.Renew outcome.Stands x ∷ []) c.clock.ensures) c.in-Ok.ensures.held)

pub returns-in-Err-clause-turn : goal.returns-in-Err-clause-turn
returns-in-Err-clause-turn g c = λ asked errand one due_old.
    let N = g.N.Naming in
    let n : Starts = starts_of N.script N.start N.sound N.origin N.since N.counted N.at_start in
    let i = c.engine.inside in
    let s = c.args.who.session in
    let number = c.args.who.command in
    let claim = claim_with c.args.table c.args.lease errand in
    let story = g.D.Disk.story i.disk in
    let h = i.log.history.items in
    let later = c.tell.new.self in
    let held = g.K.Sink.held i.log.printer.sink in
    let short : IsShort (entry s number kind.Renew outcome.Stands c.clock.result) = subst IsShort c.turn-turn.ensures.same c.turn-turn.ensures.short in
    let due : IsDue N.script (run_at N.script (N.start no_rows) h) s number asked (Granted claim) = subst (λ (x : Standing). IsDue N.script (run_at N.script (N.start no_rows) x.shown.history) s number asked (Granted claim)) (sym c.engine.view_is) due_old in
    let ran : not i.log.printer.broken ≡ true = ap (λ (x : Standing). x.shown.running) c.engine.view_is ∙ c.requires.runs in
    let grew = c.tell.ensures.items ∙ ap (λ x. h ++ x ∷ []) c.turn-turn.ensures.same in
    let prints = subst (λ x. PrintsBlock g.K.Sink.held g.K.Sink.faults i.log.printer later.printer x (told_at c.position-at.result (reply.Refused c.in-Err.refusal))) c.turn-turn.ensures.same (c.tell.ensures.told no_lines refl) in
    let kept = lost_engine g.K.Sink.held g.K.Sink.faults n N.room N.sink_faults i.metadata c.claims-claimed.new.metadata story i.log later c.engine.invariant s number short.session short.command asked one c.clock.result c.clock.ensures ran c.position-at.result c.position-at.ensures claim
    (λ w. due_alike N.script (N.start no_rows) (N.start w) h s number asked (Granted claim) (N.alike w) refl due)
    grew c.tell.ensures.room c.in-Err.refusal c.in-Err.ensures.refused c.in-Err.ensures.same c.claims-claimed.ensures.leased prints c.tell.ensures.refused in
    let new : Shown = record { history = later.history.items; running = not later.printer.broken; clock = story.moment } in
    subst (λ (x : Standing). Takes N.script (N.start no_rows) x.shown new s number kind.Renew Finished) c.engine.view_is
    (lost_takes (outset_of n no_rows) (n.origin no_rows) false i.metadata.state story held h (not i.log.printer.broken) i.log.refused (c.engine.invariant.vault no_rows false (λ is. absurd cc)) s number short.session short.command asked one ran c.position-at.result c.position-at.ensures claim due story.moment new refl
    (vault_at_seen n c.claims-claimed.new.metadata.state story (g.K.Sink.held later.printer.sink) later.history.items (not later.printer.broken) later.refused story.moment kept.vault)
    (grew ∙ ap (λ x. h ++ entry s number kind.Renew outcome.Stands x ∷ []) c.clock.ensures) c.in-Err.refusal c.in-Err.ensures.refused)

pub returns-in-Ok-clause-disk : goal.returns-in-Ok-clause-disk
returns-in-Ok-clause-disk g c =
    let N = g.N.Naming in
    let i = c.engine.inside in
    let who = c.args.who in
    let h = i.log.history.items in
    let clock = (g.D.Disk.story i.disk).moment in
    let later = c.pass.new.self in
    let old : Shown = record { history = h; running = not i.log.printer.broken; clock = clock } in
    let new : Shown = record { history = later.history.items; running = not later.printer.broken; clock = clock } in
    subst (λ (x : Standing). AnswersDisk N.script (N.start no_rows) x.shown new ⊥) c.engine.view_is
    (disk_never N.script (N.start no_rows) old new (entry who.session who.command kind.Renew outcome.Stands c.clock.result) (c.pass.ensures.items ∙ ap (λ x. h ++ x ∷ []) c.turn-turn.ensures.same) refl)

pub returns-in-Err-clause-disk : goal.returns-in-Err-clause-disk
returns-in-Err-clause-disk g c =
    let N = g.N.Naming in
    let i = c.engine.inside in
    let who = c.args.who in
    let h = i.log.history.items in
    let clock = (g.D.Disk.story i.disk).moment in
    let later = c.tell.new.self in
    let old : Shown = record { history = h; running = not i.log.printer.broken; clock = clock } in
    let new : Shown = record { history = later.history.items; running = not later.printer.broken; clock = clock } in
    subst (λ (x : Standing). AnswersDisk N.script (N.start no_rows) x.shown new ⊥) c.engine.view_is
    (disk_never N.script (N.start no_rows) old new (entry who.session who.command kind.Renew outcome.Stands c.clock.result) (c.tell.ensures.items ∙ ap (λ x. h ++ x ∷ []) c.turn-turn.ensures.same) refl)
