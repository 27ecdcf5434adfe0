-- One entry more at a history's end.
use Rattle.std.proofs.Common.{◌≡◌, ◌+◌, ◌∙◌, List, [], ◌∷◌, ◌++◌, length, refl, ap, arith, Some}
use Rattle.mesa_script.specs.mesa_model.declared.commands.Command.{Command}
use Rattle.mesa_script.specs.mesa_model.declared.commands.Script.{Script}
use Rattle.mesa_script.specs.mesa_model.declared.entries.Entry.{Entry}
use Rattle.mesa_history_spec.specs.Run.{Run, place_of, command_of}
use Rattle.mesa_history_spec.specs.Replay.{turned, turn_of, turn_as, is_skipped, last_of, last_moment_of, go, runs}
use Rattle.mesa_history_spec.specs.Legal.{Fits, AllFit}
use Rattle.mesa_history_spec.specs.Found.{kept_of, kept_in}

-- what stands after two parts of a history, one after the other
pub runs-append : (script : Script) (r : Run) (h more : List Entry) → runs script r (h ++ more) ≡ runs script (runs script r h) more
unfolding runs
runs-append script r [] more = refl
runs-append script r (e ∷ h) more = runs-append script (go script r e) h more

-- what stands after a history with one entry more
pub runs_more : (script : Script) (r : Run) (h : List Entry) (e : Entry) → runs script r (h ++ e ∷ []) ≡ go script (runs script r h) e
unfolding runs
runs_more script r [] e = refl
runs_more script r (x ∷ h) e = runs_more script (go script r x) h e

-- each entry fits, with one that fits at the end
pub fit_more : (script : Script) (r : Run) (h : List Entry) (e : Entry) → AllFit script r h → Fits script (runs script r h) e → AllFit script r (h ++ e ∷ [])
unfolding runs AllFit
fit_more script r [] e all fits = (fits, tt)
fit_more script r (x ∷ h) e all fits = (all.0, fit_more script (go script r x) h e all.1 fits)

-- ---- what one entry makes of each part of a run

-- the turn of an entry whose command is known
pub turned_is : (script : Script) (r : Run) (e : Entry) (c : Command) → command_of script e ≡ Some c → turned script r e ≡ turn_of r c e (place_of r e.session).stage e.outcome
unfolding turned
turned_is script r e c is = ap (turn_as r e) is

pub state_after : (script : Script) (r : Run) (e : Entry) → (go script r e).state ≡ (turned script r e).state
unfolding go
state_after script r e = refl

pub moment_after : (script : Script) (r : Run) (e : Entry) → (go script r e).moment ≡ Some e.moment
unfolding go
moment_after script r e = refl

pub last_after : (script : Script) (r : Run) (e : Entry) → (go script r e).last ≡ last_of (is_skipped e) (turned script r e).told
unfolding go
last_after script r e = refl

pub kept_after : (script : Script) (r : Run) (e : Entry) → kept_in (go script r e) ≡ kept_of (turned script r e).state
unfolding go kept_in
kept_after script r e = refl

pub kept_in_is : (r : Run) → kept_in r ≡ kept_of r.state
unfolding kept_in
kept_in_is r = refl

-- a run's position is the number of its entries
pub position_is : (script : Script) (r : Run) (h : List Entry) → (runs script r h).position ≡ r.position + length h
unfolding runs go
position_is script r [] = omega arith
position_is script r (e ∷ h) = let more = position_is script (go script r e) h in omega (arith, more)

-- a run's moment is that of its last entry
pub last_moment_is : (script : Script) (r : Run) (h : List Entry) → (runs script r h).moment ≡ last_moment_of r.moment h
unfolding runs last_moment_of
last_moment_is script r [] = refl
last_moment_is script r (e ∷ h) = last_moment_is script (go script r e) h ∙ ap (λ m. last_moment_of m h) (moment_after script r e)
