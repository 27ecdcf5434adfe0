-- A run whose sessions have all ended, by its last pass, is legal.
use Rattle.std.proofs.Common.{◌≡◌, ◌<◌, ℕ, List, length, not, IsTrue, ◌∙◌, ap, subst}
use Rattle.mesa_model.specs.declared.commands.Script.{Script}
use Rattle.mesa_model.specs.declared.entries.Entry.{Entry}
use Rattle.mesa_model.specs.Entry.{history_of, numbers_of}
use Rattle.mesa_model.proofs.Numbers.{history_told}
use Rattle.mesa_session_turns.specs.mesa_history_spec.Legal.{IsLegal, has_ended}
use Rattle.mesa_session_turns.specs.mesa_history_spec.Run.{State}
use Rattle.mesa_session_turns.proofs.mesa_history_spec.Ending.{legal_ended}
use Rattle.mesa_turn.specs.Passes.{Known}
use Rattle.mesa_session_turns.specs.mesa_invariant_spec.Turns.{IsSeen, Shown}
use Rattle.mesa_session_turns.specs.mesa_invariant_spec.Invariant.{run_at}
use Rattle.mesa_session_turns.specs.mesa_core.Passes.{HasEnded}

-- the last pass has seen the whole history
pub seen_whole : (script : Script) (start : State) (v : Shown) (p : Known) → IsSeen script start v → p.seen ≡ numbers_of v.history → history_of p.seen ≡ v.history
seen_whole script start v p seen is = ap history_of is ∙ history_told v.history seen.short

pub whole_legal : (script : Script) (start : State) (v : Shown) (p : Known) → IsSeen script start v → p.seen ≡ numbers_of v.history → ((s : ℕ) → s < length script.sessions → HasEnded script start p s)
    → IsLegal start script v.history (not v.running)
whole_legal script start v p seen is ended =
    let same = seen_whole script start v p seen is in
    legal_ended start script v.history (not v.running) seen.fits seen.sink (λ s lt. subst (λ (h : List Entry). IsTrue (has_ended script (run_at script start h) s)) same (ended s lt).ended)
