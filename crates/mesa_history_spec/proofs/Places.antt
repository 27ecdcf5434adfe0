-- Where each session is.
use Rattle.std.proofs.Common.{◌≡◌, ℕ, ◌==◌, List, [], ◌∷◌, ◌++◌, true, false, refl, ap, ◌∙◌, arith}
use Rattle.std.specs.List.{AllByRecursion}
use Rattle.mesa_script.specs.mesa_model.declared.commands.Script.{Script}
use Rattle.mesa_script.specs.mesa_model.declared.entries.Entry.{Entry}
use Rattle.mesa_history_spec.specs.Run.{Run, place_of}
use Rattle.mesa_history_spec.specs.Replay.{turned, place_after, go, runs}
use Rattle.mesa_history_spec.proofs.More.{runs_more}

pub same_is : (n : ℕ) → (n == n) ≡ true
same_is n = grind arith

-- a session's turn takes it on
pub place_of-go : (script : Script) (r : Run) (e : Entry) → place_of (go script r e) e.session ≡ place_after (place_of r e.session).number (turned script r e).stage
unfolding place_of go
place_of-go script r e = ap (λ b. elim b [ true ↦ place_after (place_of r e.session).number (turned script r e).stage | false ↦ place_of r e.session ]) (same_is e.session)

-- and leaves every other session where it is
pub place_of-other : (script : Script) (r : Run) (e : Entry) (session : ℕ) → (session == e.session) ≡ false → place_of (go script r e) session ≡ place_of r session
unfolding place_of go
place_of-other script r e session not = ap (λ b. elim b [ true ↦ place_after (place_of r e.session).number (turned script r e).stage | false ↦ place_of r session ]) not

-- where a session is once its turn has come at a history's end
pub place_more : (script : Script) (r : Run) (h : List Entry) (e : Entry)
    → place_of (runs script r (h ++ e ∷ [])) e.session ≡ place_after (place_of (runs script r h) e.session).number (turned script (runs script r h) e).stage
place_more script r h e = ap (λ (x : Run). place_of x e.session) (runs_more script r h e) ∙ place_of-go script (runs script r h) e

-- A session stays where it is while others have their turns.
pub others_keep : (script : Script) (r : Run) (h : List Entry) (session : ℕ) → AllByRecursion (λ e. (session == e.session) ≡ false) h → place_of (runs script r h) session ≡ place_of r session
unfolding runs
others_keep script r [] session all = refl
others_keep script r (e ∷ h) session all = others_keep script (go script r e) h session all.1 ∙ place_of-other script r e session all.0
