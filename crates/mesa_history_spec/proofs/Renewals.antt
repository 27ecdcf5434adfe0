-- A work that closes without renewal is refused, and not as lost.
use Rattle.std.proofs.Common.{◌≡◌, ℕ, true, IsTrue, refl, subst, ap, ◌∙◌, ◌&&◌, ◌||◌, Option, Some, None}
use Rattle.std.specs.Prelude.{not, is_some}
use Rattle.mesa_script.specs.mesa_model.declared.commands.Script.{Script}
use Rattle.mesa_script.specs.mesa_model.declared.entries.Entry.{Entry}
use Rattle.mesa_script.specs.mesa_model.declared.entries.Kind.{Kind}
use Rattle.mesa_script.specs.mesa_model.declared.entries.Kind.TheVariants as kind
use Rattle.mesa_script.specs.mesa_model.declared.entries.Outcome.{Outcome}
use Rattle.mesa_script.specs.mesa_model.declared.entries.Outcome.TheVariants as outcome
use Rattle.mesa_script.specs.mesa_model.declared.replies.Refusal.{Refusal}
use Rattle.mesa_script.specs.mesa_model.declared.replies.Refusal.TheVariants as no
use Rattle.mesa_history_spec.specs.Machine.{Claim}
use Rattle.mesa_history_spec.specs.Run.{State, Stage, Granted, Run, place_of}
use Rattle.mesa_history_spec.specs.Replay.{Turned, turned, turn_of, refused_turn, closed_if, closes, some_damage, told_by}
use Rattle.mesa_history_spec.specs.Legal.{Fits, is_unrenewed, is_stands, same_kind, is_answered, tells_other_refusal}
use Rattle.mesa_history_spec.proofs.More.{turned_is}
use Rattle.mesa_history_spec.proofs.Due.{due_turn}
use Rattle.mesa_history_spec.proofs.ClosedRuns.{turned-closed}

-- the position at which a warehouse closed
pub record IsClosed (closed : Option ℕ) : Type 0 where
  pub position : ℕ
  pub same : closed ≡ Some position

closed_at : (closed : Option ℕ) → IsTrue (is_some closed) → IsClosed closed
closed_at None is = absurd cc
closed_at (Some position) is = record { position = position; same = refl }

module _ (script : Script) (r : Run) (e : Entry) (claim : Claim) (fits : Fits script r e) (stage : (place_of r e.session).stage ≡ Granted claim) (closing : e.kind ≡ kind.Close) where
  -- a close that stands does so in a closed warehouse
  closed_then : e.outcome ≡ outcome.Stands → IsTrue (is_some r.state.warehouse.closed)
  closed_then stands =
      subst (λ (o : Outcome). IsTrue (not (true && true && is_stands o) || is_some r.state.warehouse.closed)) stands
      (subst (λ (k : Kind). IsTrue (not (true && same_kind kind.Close k && is_stands e.outcome) || is_some r.state.warehouse.closed)) closing
      (subst (λ (s : Stage). IsTrue (not (is_unrenewed s && same_kind kind.Close e.kind && is_stands e.outcome) || is_some r.state.warehouse.closed)) stage fits.renewal))

  when_standing : e.outcome ≡ outcome.Stands → IsTrue (tells_other_refusal (told_by script r e))
  when_standing stands =
      let closed = closed_at r.state.warehouse.closed (closed_then stands) in
      ap (λ (t : Turned). tells_other_refusal t.told)
      (turned-closed script r e closed.position closed.same fits stands (ap (same_kind kind.Look) closing) (ap is_answered stage))

  made : (o : Outcome) → e.outcome ≡ o → turned script r e ≡ turn_of r (due_turn script r e fits.due).command e (place_of r e.session).stage o
  made o is = let turn = due_turn script r e fits.due in turned_is script r e turn.command turn.known ∙ ap (turn_of r turn.command e (place_of r e.session).stage) is

  -- a close that is refused for a fault or for want of memory
  when_refused : (s : State) (refusal : Refusal) → turned script r e ≡ refused_turn r.position s e.kind (place_of r e.session).stage refusal
      → tells_other_refusal (told_by script r e) ≡ tells_other_refusal (refused_turn r.position s kind.Close (place_of r e.session).stage refusal).told
  when_refused s refusal is =
      ap (λ (t : Turned). tells_other_refusal t.told) (is ∙ ap (λ (k : Kind). refused_turn r.position s k (place_of r e.session).stage refusal) closing)

  tells : (o : Outcome) → e.outcome ≡ o → IsTrue (tells_other_refusal (told_by script r e))
  tells outcome.Stands is = when_standing is
  tells outcome.Memory is = when_refused r.state no.Memory (made outcome.Memory is)
  tells outcome.ReadFault is = when_refused r.state no.ReadFault (made outcome.ReadFault is)
  tells outcome.WriteFault is = when_refused (closed_if (closes r.moment e) r.position r.state) no.WriteFault (made outcome.WriteFault is)
  tells outcome.Damaged is = when_refused r.state (no.Damaged some_damage) (made outcome.Damaged is)
  tells outcome.Skipped is = ap (λ (t : Turned). tells_other_refusal t.told) (made outcome.Skipped is)

  -- What a close without renewal prints.
  pub renewal-early : IsTrue (tells_other_refusal (told_by script r e))
  renewal-early = tells e.outcome refl
