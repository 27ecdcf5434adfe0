use Rattle.std.proofs.Common.{◌≡◌, ◌≤◌, length, refl, subst, false}
use Rattle.std.specs.Prelude.{Result}
use Rattle.mesa_write_turns.specs.mesa_history_spec.Machine.{Claim, claim_of}
use Rattle.mesa_model.specs.declared.commands.Command.TheVariants as command
use Rattle.mesa_write_turns.specs.mesa_history_spec.Rows.{no_rows}
use Rattle.mesa_engine.specs.Engine.{Standing}
use Rattle.mesa_engine.specs.EngineState.{books_of}
use Rattle.mesa_write_turns.specs.mesa_invariant_spec.Works.{HasNoClaim}
use Rattle.mesa_engine.specs.Failure.{cause_in}
use Rattle.mesa_model.specs.declared.replies.Reply.{Reply}
use Rattle.mesa_work_turns.proofs.granting.grant.Goals as goal

pub claim-requires : goal.claim-requires
claim-requires g c = let few : length c.engine.inside.metadata.state.catalogue.tables ≤ 32 = (c.engine.invariant.vault no_rows false (λ is. absurd cc)).shaped.few in few

pub returns-in-Err-clause-disk : goal.returns-in-Err-clause-disk
returns-in-Err-clause-disk g c = λ low e grew is. absurd (c.fail.ensures.disk low e grew is)

pub fail-requires-clause-fails : goal.fail-requires-clause-fails
fail-requires-clause-fails g c κs within =
    let l = c.engine.inside.metadata.state in
    let name = c.args.words.now.table in
    let cause = cause_in c.in-Err.failure in
    let same : claim_of (books_of no_rows l).bare (books_of no_rows l).machine c.position-at.result c.as_slice.result.now ≡ claim_of (books_of no_rows l).bare (books_of no_rows l).machine (length c.engine.inside.log.history.items) name =
    λ i. claim_of (books_of no_rows l).bare (books_of no_rows l).machine (c.position-at.ensures i) (c.as_slice.ensures i) in
    let why = subst (λ (x : Result Claim Reply). HasNoClaim (books_of no_rows l) x cause) same c.in-Err.ensures.refused in
    record {
      asked = command.Work c.args.words.now;
      due = c.requires.due;
      decides = refl;
      why = subst (λ (x : Standing). HasNoClaim (books_of no_rows x.state) (claim_of (books_of no_rows x.state).bare (books_of no_rows x.state).machine (length x.shown.history) name) cause) c.engine.view_is why;
      quiet = c.in-Err.ensures.quiet;
    }
