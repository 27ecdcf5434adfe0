-- The command that is asked is due.
use Rattle.std.proofs.Common.{◌≡◌, ℕ, Bool, sym, ap, ◌∙◌, subst, Option, Some, None}
use Rattle.mesa_recast_turns.specs.mesa_history_spec.Run.{Run, Stage, command_at}
use Rattle.mesa_recast_turns.specs.mesa_history_spec.Turns.{IsDue}
use Rattle.mesa_model.specs.declared.commands.Command.{Command}
use Rattle.mesa_model.specs.declared.commands.Script.{Script}
use Rattle.mesa_core.specs.Passes.{HasSort}
use Rattle.mesa_recast_turns.specs.mesa_invariant_spec.Turns.{Asks}

some_same : {X : Type 0} (x y : X) → Some x ≡ Some y → x ≡ y
some_same {X = X} x y is = ap (λ (o : Option X). elim o [ None ↦ x | Some z ↦ z ]) is

pub asked_due : (script : Script) (r : Run) (session number : ℕ) (stage : Stage) (sort : Command → Bool) (c : Command) → Asks script r session number stage sort → command_at script session number ≡ Some c → IsDue script r session number c stage
asked_due script r session number stage sort c asks is = subst (λ x. IsDue script r session number x stage) (some_same _ _ (sym asks.due.known ∙ is)) asks.due

-- so a borrowed script has a command of its sort
pub sort_of : (script borrowed : Script) (r : Run) (session number : ℕ) (stage : Stage) (sort : Command → Bool) → borrowed ≡ script → Asks script r session number stage sort → HasSort borrowed session number sort
sort_of script borrowed r session number stage sort same asks = record {
  asked = asks.asked;
  known = ap (λ (s : Script). command_at s session number) same ∙ asks.due.known;
  is = asks.is;
}

-- and that is the one that is due
pub due_of : (script borrowed : Script) (r : Run) (session number : ℕ) (stage : Stage) (sort : Command → Bool) (c : Command) → borrowed ≡ script → Asks script r session number stage sort → command_at borrowed session number ≡ Some c → IsDue script r session number c stage
due_of script borrowed r session number stage sort c same asks is = asked_due script r session number stage sort c asks (ap (λ (s : Script). command_at s session number) (sym same) ∙ is)
