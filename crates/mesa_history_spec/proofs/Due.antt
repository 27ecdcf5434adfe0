-- What is known of an entry whose turn is due.
use Rattle.std.specs.List.{AllByRecursion}
use Rattle.std.proofs.Common.{◌≡◌, ◌==◌, ◌&&◌, ◌<◌, ◌≤◌, ℕ, zero, suc, List, [], ◌∷◌, length, get_or, slice_get, sym, ap, ◌∙◌, ◌+◌, add-one, arith, Bool, true, false, IsTrue, refl, Option, Some, None}
use Rattle.mesa_script.specs.mesa_model.declared.commands.Command.{Command}
use Rattle.mesa_script.specs.mesa_model.declared.commands.Script.{Script}
use Rattle.mesa_script.specs.mesa_model.declared.entries.Entry.{Entry}
use Rattle.mesa_history_spec.specs.Run.{Place, Run, place_of, commands_of, command_at, command_of}
use Rattle.mesa_history_spec.specs.Replay.{go}
use Rattle.mesa_history_spec.specs.Legal.{AllFit, is_due, is_due_of, is_due_at}

-- an entry that is due is a turn of a command, which is the one that its session is at
pub record IsDueTurn (o : Option Command) (place : Place) (e : Entry) : Type 0 where
  pub command : Command
  pub known : o ≡ Some command
  pub number : IsTrue (e.command == place.number)
  pub due : IsTrue (is_due_at command place.stage e.kind)

both : (a b : Bool) → IsTrue (a && b) → IsTrue a × IsTrue b
both true true is = (refl, refl)
both true false is = absurd cc
both false b is = absurd cc

due_of : (o : Option Command) (place : Place) (e : Entry) → IsTrue (is_due_of o place e) → IsDueTurn o place e
due_of None place e is = absurd cc
due_of (Some c) place e is = let parts = both (e.command == place.number) (is_due_at c place.stage e.kind) is in record { command = c; known = refl; number = parts.0; due = parts.1 }

pub due_turn : (script : Script) (r : Run) (e : Entry) → IsTrue (is_due script r e) → IsDueTurn (command_of script e) (place_of r e.session) e
due_turn script r e is = due_of (command_of script e) (place_of r e.session) e is

-- ---- sessions that are there

abbrev of_sessions : List (List Command) → Script
of_sessions sessions = record { lease = 0; sessions = sessions }

known_below : (sessions : List (List Command)) (session number : ℕ) (c : Command) → command_at (of_sessions sessions) session number ≡ Some c → session < length sessions
known_below [] zero zero c is = absurd cc
known_below [] zero (suc n) c is = absurd cc
known_below [] (suc s) zero c is = absurd cc
known_below [] (suc s) (suc n) c is = absurd cc
known_below (x ∷ xs) zero number c is = omega arith
known_below (x ∷ xs) (suc s) number c is = let lt = known_below xs s number c is in omega (arith, lt)

-- the entries that a run may have are of sessions that the script has
pub fit_below : (script : Script) (r : Run) (h : List Entry) (limit : ℕ) → length script.sessions ≤ limit → AllFit script r h → AllByRecursion (λ (e : Entry). e.session < limit) h
unfolding AllFit
fit_below script r [] limit few all = tt
fit_below script r (e ∷ h) limit few all =
    let turn = due_turn script r e all.0.due in
    let lt = known_below script.sessions e.session e.command turn.command turn.known in
    (omega (arith, lt, few), fit_below script (go script r e) h limit few all.1)

-- ---- commands by their index

none_behind : (cs : List Command) (i : ℕ) → length cs ≤ i → slice_get cs i ≡ None
none_behind [] i le = refl
none_behind (c ∷ cs) zero le = absurd (omega arith)
none_behind (c ∷ cs) (suc i) le = none_behind cs i (omega arith)

some_there : (cs : List Command) (i : ℕ) (c d : Command) → i < length cs → c ≡ get_or cs i d → slice_get cs i ≡ Some c
some_there [] i c d lt is = absurd (omega arith)
some_there (x ∷ xs) zero c d lt is = ap (λ (y : Command). Some y) (sym is)
some_there (x ∷ xs) (suc i) c d lt is = some_there xs i c d (omega arith) is

command_is : (script : Script) (session i : ℕ) → command_at script session (i + 1) ≡ slice_get (commands_of script session) i
command_is script session i = rw add-one refl

-- a session's command of an index
pub command_there : (script : Script) (session i : ℕ) (c d : Command) → i < length (commands_of script session) → c ≡ get_or (commands_of script session) i d → command_at script session (i + 1) ≡ Some c
command_there script session i c d lt is = command_is script session i ∙ some_there (commands_of script session) i c d lt is

-- there is none behind the last
pub command_behind : (script : Script) (session i : ℕ) → length (commands_of script session) ≤ i → command_at script session (i + 1) ≡ None
command_behind script session i le = command_is script session i ∙ none_behind (commands_of script session) i le
