-- How large a script is.
use Rattle.std.specs.Prelude.{ℕ, ◌+◌, ◌<◌, ◌≤◌, List, [], ◌∷◌, length}
use Rattle.mesa_model.specs.declared.commands.Command.{Command}
use Rattle.mesa_model.specs.declared.commands.Script.{Script}
use Rattle.mesa_script.specs.Script.{max_commands, max_sessions}

-- how many commands sessions have together
abbrev pub commands_in : List (List Command) → ℕ
commands_in [] = 0
commands_in (commands ∷ rest) = length commands + commands_in rest

-- A script has a prologue, not too many sessions, and not too many commands.
pub record IsSmall (script : Script) : Type 0 where
  pub some : 0 < length script.sessions
  pub few : length script.sessions ≤ max_sessions
  pub commands : commands_in script.sessions ≤ max_commands
