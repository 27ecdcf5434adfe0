-- The text of a refused script.
use Rattle.std.specs.Prelude.{ℕ, List, ◌++◌, codes, decimal}
use Rattle.mesa_script.specs.declared.script.Reason.{Reason}
use Rattle.mesa_script.specs.declared.script.Reason.TheVariants as reason
use Rattle.mesa_script.specs.declared.script.ScriptError.{ScriptError}
use Rattle.mesa_script.specs.declared.script.ScriptError.TheVariants as bad

-- a reason in a word
abbrev pub reason_word : Reason → List ℕ
reason_word reason.Unknown = codes "unknown"
reason_word reason.Fields = codes "fields"
reason_word reason.Order = codes "order"
reason_word reason.Word = codes "word"
reason_word reason.Number = codes "number"

-- a place and a reason
abbrev place_text : ℕ → List ℕ → List ℕ
place_text place word = codes "place=" ++ decimal place ++ codes " reason=" ++ word

-- The place and the reason of a refused script.
abbrev pub error_text : ScriptError → List ℕ
error_text (bad.BadRecord place reason) = place_text place (reason_word reason)
error_text (bad.TooManyCommands place) = place_text place (codes "commands")
error_text (bad.TooManySessions place) = place_text place (codes "sessions")
error_text bad.Memory = codes "memory"
