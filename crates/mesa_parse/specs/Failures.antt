-- How reading a record fails.
use Rattle.std.specs.Prelude.{◌≡◌, ℕ, ⊤, Result, Err}
use Rattle.mesa_script.specs.declared.script.Reason.{Reason}
use Rattle.mesa_script.specs.declared.script.ScriptError.{ScriptError}
use Rattle.mesa_script.specs.declared.script.ScriptError.TheVariants as bad
use Rattle.mesa_parse.specs.declared.failed.Failed.{Failed}
use Rattle.mesa_parse.specs.declared.failed.Failed.TheVariants.{Bad, Memory}

-- the refusal of a script whose record at a place failed so
abbrev pub refusal_at : ℕ → Failed → ScriptError
refusal_at place (Bad reason) = bad.BadRecord place reason
refusal_at place Memory = bad.Memory

-- reading fails for the reason that is told, unless memory ran out
abbrev pub Tells : {A : Type 0} → Failed → Result A Reason → Type 0
Tells (Bad reason) read = read ≡ Err reason
Tells Memory read = ⊤
