use Rattle.std.proofs.Common.{◌≡◌, ◌∙◌, length, true, sym, subst, Result, Ok, Err}
use Rattle.mesa_engine.specs.Engine.{Standing}
use Rattle.mesa_engine.specs.EngineState.{books_of}
use Rattle.mesa_write_turns.specs.mesa_history_spec.Claims.{is_live}
use Rattle.mesa_model.specs.declared.replies.Refusal.{Refusal}
use Rattle.mesa_write_turns.specs.mesa_history_spec.Rows.{no_rows}
use Rattle.mesa_open_files.specs.Tasks.{claim_in}
use Rattle.mesa_work_turns.specs.Claims.{lease_checked}
use Rattle.mesa_work_turns.specs.Swept.{ClaimHolds}
use Rattle.mesa_work_turns.proofs.ClosingClaims.{checked_live}
use Rattle.mesa_work_turns.proofs.completing.close.Goals as goal

-- the lease that its claim has is live
pub swap_in-requires-clause-finished : goal.swap_in-requires-clause-finished
swap_in-requires-clause-finished g c κs within =
    let t = c.args.task.now in
    c.requires.finished
    (subst (λ (x : Standing). is_live x.state.leases t.table t.lease ≡ true) c.engine.view_is
    (checked_live c.engine.inside.metadata.state c.position-at.result t.table t.lease c.in-Ok.ensures.held))

pub returns-in-Ok-clause-swept : goal.returns-in-Ok-clause-swept
returns-in-Ok-clause-swept g c = λ stood holds. c.swap_in.ensures.swept stood

-- a claim that is refused doesn't hold
pub returns-in-Err-clause-swept : goal.returns-in-Err-clause-swept
returns-in-Err-clause-swept g c = λ stood holds.
    let l = c.engine.inside.metadata.state in
    let t = c.args.task.now in
    let held : lease_checked (books_of no_rows l) (length c.engine.inside.log.history.items) t.table t.lease ≡ Ok tt =
    subst (λ (x : Standing). ClaimHolds x.state (length x.shown.history) (claim_in t)) (sym c.engine.view_is) holds in
    let no : ◌≡◌ {A = Result (Unit {0}) Refusal} (Err c.in-Err.refusal) (Ok tt) = sym c.in-Err.ensures.refused ∙ (λ i. lease_checked (books_of no_rows l) (c.position-at.ensures i) t.table t.lease) ∙ held in
    absurd cc
