-- A run of one session alone in which nothing failed and no reply tells that memory was short.
use Rattle.std.specs.Prelude.{◌≡◌, ◌≢◌, ℕ, List, [], ◌∷◌, Bool, true, false, ◌||◌, Option, None, Some}
use Rattle.std.specs.Io.KnownBytes.{Appends}
use Rattle.mesa_session.specs.mesa_history_laws.Alone.{AllTurnsStand, IsAlone, output_alone}
use Rattle.mesa_model.specs.declared.commands.Script.{Script}
use Rattle.mesa_model.specs.declared.entries.Entry.{Entry}
use Rattle.mesa_model.specs.declared.replies.Refusal.{Refusal}
use Rattle.mesa_model.specs.declared.replies.Refusal.TheVariants as no
use Rattle.mesa_model.specs.declared.replies.Reply.{Reply}
use Rattle.mesa_model.specs.declared.replies.Reply.TheVariants as reply
use Rattle.mesa_session.specs.mesa_history_spec.Replay.{go, told_by}
use Rattle.mesa_session.specs.mesa_history_spec.Run.{Run, Told, begins}
use Rattle.mesa_parse.specs.declared.forms.Form.TheVariants as form
use Rattle.mesa_session.specs.mesa_history_spec.Rows.{Rows}
use Rattle.mesa_engine.specs.mesa_store_spec.Catalog.{Catalog}
use Rattle.mesa_shell.specs.Ports.{Ports}
use Rattle.mesa_shell.specs.ExitLines.{memory_status}
use Rattle.mesa_shell.specs.StoreStart.{start_of}
use Rattle.mesa_shell.specs.Completing.{HasRoomToRun, IsInput, NothingFailed}
use Rattle.mesa_shell.specs.Exit.{Ends}
use Rattle.mesa_shell.specs.declared.done.Devices.{Devices}
use Rattle.mesa_shell.specs.declared.done.Done.{Done}

-- whether a refusal is for want of memory
abbrev pub is_memory : Refusal → Bool
is_memory no.Memory = true
is_memory refusal = false

-- whether a reply is memory
abbrev pub is_short : Reply → Bool
is_short (reply.Refused refusal) = is_memory refusal
is_short r = false

-- whether what a turn prints, if anything, is
abbrev pub tells_memory : Option Told → Bool
tells_memory None = false
tells_memory (Some told) = is_short told.reply

-- Whether some printed reply of a history is memory.
unfoldable pub some_memory : Script → Run → List Entry → Bool
some_memory script r [] = false
some_memory script r (e ∷ h) = tells_memory (told_by script r e) || some_memory script (go script r e) h

-- A call that was asked to run a script over a sound store: where no count rose, memory wasn't too short for the call itself, and no printed reply is memory, each turn but a look stands; so of a script that one session has alone the sink was given the one text that is told of it.
abbrev pub RunsUnfailed : {K D M B : Type 0} → Ports K D M B → Devices K D B → Done K D B → Option (List ℕ) → ℕ → ℕ → Type 0
RunsUnfailed ports given done input before now =
    (script : Script) (c : Catalog) (rows : Rows) → IsInput input script → Ends ports given done (Some form.Run) input before now → HasRoomToRun ports given c rows → NothingFailed ports given done before now
    → done.status ≢ memory_status → some_memory script (begins (start_of script c rows)) done.history.items ≡ false
    → AllTurnsStand done.history.items × (IsAlone script → Appends (ports.held given.out) (ports.held done.out) (output_alone (start_of script c rows) script))
