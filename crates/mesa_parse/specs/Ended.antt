-- The end of a script.
use Rattle.std.specs.Prelude.{ℕ, [], Result, Ok}
use Rattle.mesa_list.specs.Checks.{◌>>=◌}
use Rattle.mesa_model.specs.declared.commands.Script.{Script}
use Rattle.mesa_script.specs.declared.script.ScriptError.{ScriptError}
use Rattle.mesa_script.specs.Script.{Read, read_from, script_from}

-- the script of what was read, where the input ends before the record at a place
abbrev pub ended : ℕ → Read → Result Script ScriptError
ended place r = read_from place [] r >>= (λ last. Ok (script_from last))
