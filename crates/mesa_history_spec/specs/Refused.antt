-- Whether some printed reply of a run is a refusal.
use Rattle.std.specs.Prelude.{List, [], ◌∷◌, Bool, true, false, ◌||◌, Option, Some, None}
use Rattle.mesa_script.specs.mesa_model.declared.commands.Script.{Script}
use Rattle.mesa_script.specs.mesa_model.declared.entries.Entry.{Entry}
use Rattle.mesa_script.specs.mesa_model.declared.replies.Reply.{Reply}
use Rattle.mesa_script.specs.mesa_model.declared.replies.Reply.TheVariants as reply
use Rattle.mesa_history_spec.specs.Run.{Told, Run}
use Rattle.mesa_history_spec.specs.Replay.{told_by, go}

-- whether a reply is a refusal
abbrev pub is_refusal : Reply → Bool
is_refusal (reply.Refused refusal) = true
is_refusal r = false

-- whether what a turn prints, if anything, is a refusal
abbrev pub tells_refusal : Option Told → Bool
tells_refusal None = false
tells_refusal (Some told) = is_refusal told.reply

-- Whether some entry of a history prints a refusal.
unfoldable pub some_refused : Script → Run → List Entry → Bool
some_refused script r [] = false
some_refused script r (e ∷ h) = tells_refusal (told_by script r e) || some_refused script (go script r e) h
