-- Legal: which histories a run may have.
use Rattle.std.specs.Prelude.{ℕ, List, [], ◌∷◌, length, Bool, true, false, ◌&&◌, ◌||◌, ◌==◌, not, if◌then◌else◌, Option, Some, None, is_some, is_none, is_ok, IsTrue}
use Rattle.std.specs.List.{list_all, range_with_len}
use Rattle.mesa_script.specs.mesa_model.declared.commands.Command.{Command}
use Rattle.mesa_script.specs.mesa_model.declared.commands.Command.TheVariants as command
use Rattle.mesa_script.specs.mesa_model.declared.commands.Script.{Script}
use Rattle.mesa_script.specs.mesa_model.declared.entries.Entry.{Entry}
use Rattle.mesa_script.specs.mesa_model.declared.entries.Kind.{Kind}
use Rattle.mesa_script.specs.mesa_model.declared.entries.Kind.TheVariants as kind
use Rattle.mesa_script.specs.mesa_model.declared.entries.Outcome.{Outcome}
use Rattle.mesa_script.specs.mesa_model.declared.entries.Outcome.TheVariants as outcome
use Rattle.mesa_script.specs.mesa_model.declared.replies.Reply.{Reply}
use Rattle.mesa_script.specs.mesa_model.declared.replies.Reply.TheVariants as reply
use Rattle.mesa_script.specs.mesa_model.declared.replies.Refusal.{Refusal}
use Rattle.mesa_script.specs.mesa_model.declared.replies.Refusal.TheVariants as no
use Rattle.mesa_script.specs.mesa_batch.Batch.{batch_of}
use Rattle.mesa_script.specs.mesa_model.Warehouse.{Store}
use Rattle.mesa_script.specs.mesa_model.Load.{tables_named}
use Rattle.mesa_history_spec.specs.Run.{State, Stage, First, Looked, Answered, Granted, Renewed, Finished, CutOff, Place, Told, Last, Silent, Printed, Skipped, Run, place_of, command_at, command_of, begins}
use Rattle.mesa_history_spec.specs.Replay.{stood, told_by, is_skipped, is_later, closes, go, runs}

-- whether two kinds of turns are one
abbrev pub same_kind : Kind → Kind → Bool
same_kind kind.Look k = elim k [ kind.Look ↦ true | kind.Decide ↦ false | kind.Close ↦ false | kind.Grant ↦ false | kind.Renew ↦ false ]
same_kind kind.Decide k = elim k [ kind.Look ↦ false | kind.Decide ↦ true | kind.Close ↦ false | kind.Grant ↦ false | kind.Renew ↦ false ]
same_kind kind.Close k = elim k [ kind.Look ↦ false | kind.Decide ↦ false | kind.Close ↦ true | kind.Grant ↦ false | kind.Renew ↦ false ]
same_kind kind.Grant k = elim k [ kind.Look ↦ false | kind.Decide ↦ false | kind.Close ↦ false | kind.Grant ↦ true | kind.Renew ↦ false ]
same_kind kind.Renew k = elim k [ kind.Look ↦ false | kind.Decide ↦ false | kind.Close ↦ false | kind.Grant ↦ false | kind.Renew ↦ true ]

-- whether a turn stands
abbrev pub is_stands : Outcome → Bool
is_stands outcome.Stands = true
is_stands o = false

-- ---- the prologue comes first

-- an entry of the prologue stands before those of all other sessions
abbrev pub fits_prologue : Run → Entry → Bool
fits_prologue r e = not (r.prologue_over && (e.session == 0))

-- ---- each session's turns, in their order

-- the kind of a command's first turn
abbrev pub first_kind : Command → Kind
first_kind (command.Load rows) = kind.Look
first_kind (command.Work words) = kind.Grant
first_kind (command.Recast words) = kind.Grant
first_kind c = kind.Decide

-- whether a turn of this kind is due: a load looks and is decided; a query is decided and, where it isn't refused, closes; a work or a recast is granted a lease, is renewed and closes, or closes without renewal; any other command is decided
abbrev pub is_due_at : Command → Stage → Kind → Bool
is_due_at c First k = same_kind (first_kind c) k
is_due_at c Looked k = same_kind kind.Decide k
is_due_at c (Answered at answer) k = same_kind kind.Close k
is_due_at c (Granted claim) k = same_kind kind.Renew k || same_kind kind.Close k
is_due_at c (Renewed claim) k = same_kind kind.Close k
is_due_at c Finished k = false
is_due_at c CutOff k = false

-- the same of an entry whose command is this one, if there is one
abbrev pub is_due_of : Option Command → Place → Entry → Bool
is_due_of None place e = false
is_due_of (Some c) place e = (e.command == place.number) && is_due_at c place.stage e.kind

-- the entry is the turn of its session that is due
abbrev pub is_due : Script → Run → Entry → Bool
is_due script r e = is_due_of (command_of script e) (place_of r e.session) e

-- a work or a recast was granted a lease and not renewed yet
abbrev pub is_unrenewed : Stage → Bool
is_unrenewed (Granted claim) = true
is_unrenewed stage = false

-- a work or a recast that closes without renewal stands only where the warehouse is closed, so it is refused, and not as lost
abbrev pub fits_renewal : Run → Entry → Bool
fits_renewal r e =
    not (is_unrenewed (place_of r e.session).stage && same_kind kind.Close e.kind && is_stands e.outcome) || is_some r.state.warehouse.closed

-- a refusal that doesn't tell of a lost lease
abbrev is_other_refusal : Refusal → Bool
is_other_refusal (no.Lost lease holder) = false
is_other_refusal refusal = true

-- a reply that is such a refusal
abbrev is_refused_as_other : Reply → Bool
is_refused_as_other (reply.Refused refusal) = is_other_refusal refusal
is_refused_as_other r = false

-- what a turn prints, if anything, is a refusal for another reason than a lost lease
abbrev pub tells_other_refusal : Option Told → Bool
tells_other_refusal None = true
tells_other_refusal (Some told) = is_refused_as_other told.reply

-- ---- what follows a failure of the sink

-- a skipped entry stands behind one that printed or that was skipped, and any other behind one that wasn't skipped
abbrev pub fits_sink : Last → Bool → Bool
fits_sink Silent skipped = not skipped
fits_sink Printed skipped = true
fits_sink Skipped skipped = skipped

-- ---- moments

-- a reply of a turn that wrote
abbrev pub is_written : Reply → Bool
is_written (reply.Table name) = true
is_written (reply.View name) = true
is_written (reply.Altered table epoch) = true
is_written (reply.Loaded version rows) = true
is_written (reply.Expired table oldest) = true
is_written (reply.Swapped from to) = true
is_written (reply.Recast table epoch) = true
is_written r = false

-- whether a turn wrote
abbrev pub wrote : Option Told → Bool
wrote None = false
wrote (Some told) = is_written told.reply

-- an entry that wrote is later than the one before it, and so is one that closes; any other has its moment
abbrev pub fits_moment : Option ℕ → Option Told → Entry → Bool
fits_moment None told e = true
fits_moment (Some before) told e = if wrote told then is_later before e.moment else closes (Some before) e || (e.moment == before)

-- ---- which outcomes a turn may have

-- whether a command is a query
abbrev pub is_query : Command → Bool
is_query (command.Query words) = true
is_query c = false

-- whether a command is done under a lease, as a work and a recast are
abbrev pub is_work : Command → Bool
is_work (command.Work words) = true
is_work (command.Recast words) = true
is_work c = false

-- whether a command releases a pin
abbrev pub is_release : Command → Bool
is_release (command.Release token) = true
is_release c = false

-- a command that writes in its deciding turn
abbrev pub is_writing : Command → Bool
is_writing (command.Load rows) = true
is_writing (command.Table words) = true
is_writing (command.View words) = true
is_writing (command.Alter words) = true
is_writing (command.Expire table version) = true
is_writing c = false

-- want of memory stands on every turn but a release and the renewal of a lease; a read fault or damage only on a query and on the close of a work or a recast, a read fault also on a grant; a write fault only on the close of a work or a recast and on a deciding turn that writes
abbrev pub outcome_fits : Command → Kind → Outcome → Bool
outcome_fits c k outcome.Stands = true
outcome_fits c k outcome.Memory = not (is_release c || same_kind kind.Renew k)
outcome_fits c k outcome.ReadFault = is_query c || (is_work c && (same_kind kind.Close k || same_kind kind.Grant k))
outcome_fits c k outcome.WriteFault = (is_work c && same_kind kind.Close k) || (is_writing c && same_kind kind.Decide k)
outcome_fits c k outcome.Damaged = is_query c || (is_work c && same_kind kind.Close k)
outcome_fits c k outcome.Skipped = true

-- the same of a command, if there is one
abbrev pub outcome_fits_in : Option Command → Entry → Bool
outcome_fits_in None e = false
outcome_fits_in (Some c) e = outcome_fits c e.kind e.outcome

-- the entry's outcome is one that its turn may have
abbrev pub fits_outcome : Script → Entry → Bool
fits_outcome script e = outcome_fits_in (command_of script e) e

-- ---- which faults a turn may meet

-- an outcome of a turn that couldn't read a file, or found one damaged
abbrev pub is_unread : Outcome → Bool
is_unread outcome.ReadFault = true
is_unread outcome.Damaged = true
is_unread o = false

-- an outcome of a turn that couldn't write
abbrev pub is_unwritten : Outcome → Bool
is_unwritten outcome.WriteFault = true
is_unwritten o = false

-- a query's deciding turn, or a grant, finds a file that it can't read only where it would have printed nothing, had it stood: where the query would have been answered, or the work or the recast granted
abbrev pub fits_reading : Script → Run → Entry → Bool
fits_reading script r e = not (is_unread e.outcome) || same_kind kind.Close e.kind || is_none (told_by script r (stood e))

-- the turn would have written, had it stood
abbrev pub would_write : Script → Run → Entry → Bool
would_write script r e = fits_renewal r (stood e) && wrote (told_by script r (stood e))

-- a command for which files are built outside its turns: a load whose rows make a batch, a work, or a recast
abbrev pub builds_files : Store → Command → Bool
builds_files s (command.Load rows) = is_ok (batch_of (tables_named s) rows)
builds_files s c = is_work c

-- the same of a command, if there is one
abbrev pub builds_files_in : Store → Option Command → Bool
builds_files_in s None = false
builds_files_in s (Some c) = builds_files s c

-- a moment is that of the entry before, if there is one
abbrev pub is_same_moment : Option ℕ → ℕ → Bool
is_same_moment None moment = false
is_same_moment (Some before) moment = moment == before

-- a write fault that closes stands only where the turn would have written, had it stood; one of a file that was being built, in a turn that leaves the disk's clock, only where files are built for the command
abbrev pub fits_writing : Script → Run → Entry → Bool
fits_writing script r e =
    not (is_unwritten e.outcome) || (closes r.moment e && would_write script r e)
    || (is_same_moment r.moment e.moment && builds_files_in r.state.warehouse.store (command_of script e))

-- ---- what follows a fault that closed the warehouse

-- a query was answered and hasn't closed yet
abbrev pub is_answered : Stage → Bool
is_answered (Answered at answer) = true
is_answered stage = false

-- in a closed warehouse every entry stands or is skipped, but a look and the close of a query that was decided before
abbrev pub fits_closed : Run → Entry → Bool
fits_closed r e =
    is_none r.state.warehouse.closed || is_stands e.outcome || is_skipped e || same_kind kind.Look e.kind || is_answered (place_of r e.session).stage

-- ---- all of them

-- An entry that a run may have next, where it comes.
pub record Fits (script : Script) (r : Run) (e : Entry) : Type 0 where
  pub prologue : IsTrue (fits_prologue r e)
  pub due : IsTrue (is_due script r e)
  pub renewal : IsTrue (fits_renewal r e)
  pub sink : IsTrue (fits_sink r.last (is_skipped e))
  pub moment : IsTrue (fits_moment r.moment (told_by script r e) e)
  pub outcome : IsTrue (fits_outcome script e)
  pub reading : IsTrue (fits_reading script r e)
  pub writing : IsTrue (fits_writing script r e)
  pub closed : IsTrue (fits_closed r e)

-- each entry fits where it comes
unfoldable pub AllFit : Script → Run → List Entry → Type 0
AllFit script r [] = Unit {0}
AllFit script r (e ∷ h) = Fits script r e × AllFit script (go script r e) h

-- the numbers of a script's sessions
abbrev pub sessions_of : Script → List ℕ
sessions_of script = range_with_len 0 (length script.sessions)

-- a session has had all of its turns
abbrev pub is_complete : Script → Run → ℕ → Bool
is_complete script r session = is_none (command_at script session (place_of r session).number)

-- whether a session was cut off
abbrev pub is_cut_off_at : Stage → Bool
is_cut_off_at CutOff = true
is_cut_off_at stage = false

-- a session's last turn was skipped
abbrev pub is_cut_off : Run → ℕ → Bool
is_cut_off r session = is_cut_off_at (place_of r session).stage

-- a session is complete, or was cut off
abbrev pub has_ended : Script → Run → ℕ → Bool
has_ended script r session = is_complete script r session || is_cut_off r session

-- whether the last turn printed nothing
abbrev pub is_silent : Last → Bool
is_silent Silent = true
is_silent last = false

-- whether the last turn was skipped
abbrev pub last_skipped : Last → Bool
last_skipped Skipped = true
last_skipped last = false

-- How a run may end: where the sink didn't fail, every session is complete and no entry is skipped; where it did, the entries behind a printing one are skipped, and a session that isn't complete has one of them as its last.
abbrev pub ends_well : Bool → Script → Run → Bool
ends_well false script r = not (last_skipped r.last) && list_all (is_complete script r) (sessions_of script)
ends_well true script r = not (is_silent r.last) && list_all (has_ended script r) (sessions_of script)

-- Legal: what a run's history meets; `failed` says whether the sink failed in the run.
pub record IsLegal (start : State) (script : Script) (h : List Entry) (failed : Bool) : Type 0 where
  pub each : AllFit script (begins start) h
  pub ends : IsTrue (ends_well failed script (runs script (begins start) h))

-- ---- as one test

-- the tests of an entry together
abbrev pub is_fit : Script → Run → Entry → Bool
is_fit script r e =
    fits_prologue r e && (is_due script r e && (fits_renewal r e && (fits_sink r.last (is_skipped e)
    && (fits_moment r.moment (told_by script r e) e && (fits_outcome script e && (fits_reading script r e && (fits_writing script r e && fits_closed r e)))))))

-- the same of each entry where it comes
unfoldable pub are_fit : Script → Run → List Entry → Bool
are_fit script r [] = true
are_fit script r (e ∷ h) = is_fit script r e && are_fit script (go script r e) h

-- Legal as a test of a history that is written out.
abbrev pub is_legal : State → Script → List Entry → Bool → Bool
is_legal start script h failed = are_fit script (begins start) h && ends_well failed script (runs script (begins start) h)
