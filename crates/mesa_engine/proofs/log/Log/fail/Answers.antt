use Rattle.std.proofs.Common.{◌≡◌, [], length, sym, ◌∙◌, ap, subst}
use Rattle.mesa_invariant_spec.specs.mesa_history_spec.Replay.{no_rows}
use Rattle.mesa_engine.specs.Failure.{cause_in}
use Rattle.mesa_engine.specs.Printing.{PrintsBlock}
use Rattle.mesa_engine.proofs.Printing.{no_body}
use Rattle.mesa_model.specs.Entry.{IsShort}
use Rattle.mesa_script.specs.Rows.{body_of}
use Rattle.mesa_invariant_spec.specs.Causes.{reply_of, told_at}
use Rattle.mesa_invariant_spec.specs.Turns.{entry}
use Rattle.mesa_engine.proofs.log.Log.fail.Goals as goal

pub returns-clause-told : goal.returns-clause-told
returns-clause-told g c =
    let old = c.args.self.now.printer in
    let new = c.tell.new.self.printer in
    let rep = reply_of (cause_in c.args.failure) in
    let who = c.args.who in
    let turn_is = c.turn-turn.ensures.same ∙ ap (λ o. entry who.session who.command c.args.kind o c.args.moment) c.outcome.ensures in
    let told = c.tell.ensures.told no_rows (subst (λ r. [] ≡ body_of no_rows r) (sym c.into_reply-reply.ensures) (no_body c.args.failure)) in
    subst (λ e. PrintsBlock g.K.Sink.held g.K.Sink.faults old new e (told_at (length c.args.self.now.history.items) rep)) turn_is
    (subst (λ at. PrintsBlock g.K.Sink.held g.K.Sink.faults old new c.turn-turn.result (told_at at rep)) c.position-at.ensures
    (subst (λ r. PrintsBlock g.K.Sink.held g.K.Sink.faults old new c.turn-turn.result (told_at c.position-at.result r)) c.into_reply-reply.ensures told))

pub returns-clause-short : goal.returns-clause-short
returns-clause-short g c =
    let who = c.args.who in
    subst IsShort (c.turn-turn.ensures.same ∙ ap (λ o. entry who.session who.command c.args.kind o c.args.moment) c.outcome.ensures) c.turn-turn.ensures.short
