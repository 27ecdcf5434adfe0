-- One turn of a session's command: where the session stands before it and behind it.
use Rattle.std.specs.Prelude.{◌≡◌, ℕ, Bool, true, false, ◌&&◌, ◌==◌, not, Option, Some, IsTrue}
use Rattle.mesa_script.specs.mesa_model.declared.commands.Command.{Command}
use Rattle.mesa_script.specs.mesa_model.declared.commands.Script.{Script}
use Rattle.mesa_script.specs.mesa_model.declared.entries.Kind.{Kind}
use Rattle.mesa_history_spec.specs.Run.{Stage, CutOff, Place, Told, Run, place_of, command_at}
use Rattle.mesa_history_spec.specs.Replay.{standing, place_after}

-- A session's command of this number is this one, and has come to this stage; where the session is the prologue, no other had a turn.
pub record IsDue (script : Script) (r : Run) (session number : ℕ) (c : Command) (stage : Stage) : Type 0 where
  pub known : command_at script session number ≡ Some c
  pub place : place_of r session ≡ record { number = number; stage = stage }
  pub prologue : IsTrue (not (r.prologue_over && (session == 0)))

-- what a turn of a command that has come to a stage would print, if it stood
abbrev pub would_print : Run → ℕ → Command → Kind → Stage → Option Told
would_print r session c k stage = (standing r.position r.state session c k stage).told

-- where a session is behind a turn that takes its command to a stage: it is cut off where the turn is skipped
abbrev pub place_then : Bool → ℕ → Stage → Place
place_then false number stage = place_after number stage
place_then true number stage = record { number = number; stage = CutOff }
