-- A turn whose vault did something before its entry: what was seen of it is the same.
use Rattle.std.proofs.Common.{◌≡◌, ℕ, sym, subst}
use Rattle.mesa_core.specs.mesa_history_spec.Machine.{Claim}
use Rattle.mesa_core.specs.mesa_history_spec.Run.{Finished, Renewed, State}
use Rattle.mesa_model.specs.declared.commands.Script.{Script}
use Rattle.mesa_model.specs.declared.entries.Kind.TheVariants as kind
use Rattle.mesa_core.specs.mesa_invariant_spec.Turns.{Asks, Shown, Takes, is_recast}
use Rattle.mesa_core.specs.mesa_invariant_spec.Invariant.{run_at}

module _ (script : Script) (start : State) (old now : Shown) where
  -- its last turn is due
  pub asked_now : (session number : ℕ) (claim still : Claim) → now ≡ old → still ≡ claim → Asks script (run_at script start old.history) session number (Renewed claim) is_recast → Asks script (run_at script start now.history) session number (Renewed still) is_recast
  asked_now session number claim still same is asks =
      subst (λ (s : Shown). Asks script (run_at script start s.history) session number (Renewed still) is_recast) (sym same) (subst (λ (c : Claim). Asks script (run_at script start old.history) session number (Renewed c) is_recast) (sym is) asks)

  -- and is one of what there was
  pub took_now : (new : Shown) (session number : ℕ) → now ≡ old → Takes script start now new session number kind.Close Finished → Takes script start old new session number kind.Close Finished
  took_now new session number same takes = subst (λ (s : Shown). Takes script start s new session number kind.Close Finished) same takes
