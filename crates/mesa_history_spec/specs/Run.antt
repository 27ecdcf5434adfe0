-- What stands after some turns of a run.
use Rattle.std.specs.Prelude.{ℕ, zero, suc, List, [], Bool, false, Option, None, slice_get, slice_index_or}
use Rattle.mesa_script.specs.mesa_model.declared.commands.Command.{Command}
use Rattle.mesa_script.specs.mesa_model.declared.commands.Script.{Script}
use Rattle.mesa_script.specs.mesa_model.declared.entries.Entry.{Entry}
use Rattle.mesa_script.specs.mesa_model.declared.replies.Reply.{Reply}
use Rattle.mesa_script.specs.mesa_model.Warehouse.{Warehouse, empty_warehouse}
use Rattle.mesa_script.specs.mesa_model.Query.{Answer, Heading}
use Rattle.mesa_history_spec.specs.Machine.{Machine, Claim, machine_of}

-- The reference warehouse and the range machine.
pub record State : Type 0 where
  pub warehouse : Warehouse
  pub machine : Machine

-- How far a session's command has come: its first turn is due; a load has looked; a query was answered at a position; a work or a recast was granted its claim; the claim was renewed; the command is finished; or the session was cut off, since the sink had failed.
pub data Stage : Type 0 where
  First : Stage
  Looked : Stage
  Answered : ℕ → Answer → Stage
  Granted : Claim → Stage
  Renewed : Claim → Stage
  Finished : Stage
  CutOff : Stage

-- Where a session is: the number of the command that is due, and how far it has come.
pub record Place : Type 0 where
  pub number : ℕ
  pub stage : Stage

-- What a turn prints: a position, a reply, and how the rows of the reply are printed.
pub record Told : Type 0 where
  pub at : ℕ
  pub reply : Reply
  pub heading : Heading

-- whether the last turn printed, printed nothing, or was skipped
pub data Last : Type 0 where
  Silent : Last
  Printed : Last
  Skipped : Last

-- What stands after some turns: the state, how many turns there were, the moment of the last one, where each session is, whether a session other than the prologue had a turn, and what the last turn did to the sink.
pub record Run : Type 0 where
  pub state : State
  pub position : ℕ
  pub moment : Option ℕ
  pub places : ℕ → Place
  pub prologue_over : Bool
  pub last : Last

-- where a session is
unfoldable pub place_of : Run → ℕ → Place
place_of r session = r.places session

-- ---- commands

-- the command of a number among a session's
abbrev pub numbered : List Command → ℕ → Option Command
numbered commands zero = None
numbered commands (suc n) = slice_get commands n

-- a session's commands
abbrev pub commands_of : Script → ℕ → List Command
commands_of script session = slice_index_or script.sessions session []

-- the command of a session with a number, which counts from 1
abbrev pub command_at : Script → ℕ → ℕ → Option Command
command_at script session number = numbered (commands_of script session) number

-- the command of an entry
abbrev pub command_of : Script → Entry → Option Command
command_of script e = command_at script e.session e.command

-- ---- the start

-- an empty store
abbrev pub nothing_there : Script → State
nothing_there script = record { warehouse = empty_warehouse; machine = machine_of script [] }

-- a session before its first turn
abbrev pub first_place : Place
first_place = record { number = 1; stage = First }

-- A run before its first turn.
abbrev pub begins : State → Run
begins start = record { state = start; position = 0; moment = None; places = λ session. first_place; prologue_over = false; last = Silent }
