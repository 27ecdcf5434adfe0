-- The history in which every turn stands, every work that is granted is renewed, and the sessions run one after another.
use Rattle.std.specs.Prelude.{ℕ, zero, suc, ◌+◌, ◌*◌, List, [], ◌∷◌, ◌++◌, length, if◌then◌else◌, Option, Some, None}
use Rattle.mesa_script.specs.mesa_model.declared.commands.Command.{Command}
use Rattle.mesa_script.specs.mesa_model.declared.commands.Script.{Script}
use Rattle.mesa_script.specs.mesa_model.declared.entries.Entry.{Entry}
use Rattle.mesa_script.specs.mesa_model.declared.entries.Kind.{Kind}
use Rattle.mesa_script.specs.mesa_model.declared.entries.Kind.TheVariants as kind
use Rattle.mesa_script.specs.mesa_model.declared.entries.Outcome.TheVariants as outcome
use Rattle.mesa_history_spec.specs.Run.{State, Stage, First, Looked, Answered, Granted, Renewed, Finished, CutOff, Run, place_of, command_at, begins}
use Rattle.mesa_history_spec.specs.Replay.{told_by, go}
use Rattle.mesa_history_spec.specs.Legal.{first_kind, wrote}

-- a run so far, with its history
pub record SoFar : Type 0 where
  pub run : Run
  pub history : List Entry

-- the kind of the turn that is due
abbrev pub kind_due : Command → Stage → Kind
kind_due c First = first_kind c
kind_due c Looked = kind.Decide
kind_due c (Answered at answer) = kind.Close
kind_due c (Granted claim) = kind.Renew
kind_due c (Renewed claim) = kind.Close
kind_due c Finished = kind.Look
kind_due c CutOff = kind.Look

-- a moment, and 0 where there is none
abbrev moment_of : Option ℕ → ℕ
moment_of None = 0
moment_of (Some moment) = moment

-- an entry of a session's command that is due
abbrev entry_at : Run → ℕ → Kind → ℕ → Entry
entry_at r session k moment = record { session = session; command = (place_of r session).number; kind = k; outcome = outcome.Stands; moment = moment }

-- the entry of the turn that is due: it is later than the one before where it wrote
abbrev entry_due : Script → Run → ℕ → Command → Entry
entry_due script r session c =
    let k = kind_due c (place_of r session).stage in
    let moment = moment_of r.moment in
    entry_at r session k (if wrote (told_by script r (entry_at r session k moment)) then moment + 1 else moment)

-- a run with an entry more
abbrev with_entry : Script → SoFar → Entry → SoFar
with_entry script past e = record { run = go script past.run e; history = past.history ++ e ∷ [] }

-- at most so many turns of a session
abbrev pub session_alone : ℕ → Script → ℕ → SoFar → SoFar
session_alone zero script session past = past
session_alone (suc turns) script session past = elim (command_at script session (place_of past.run session).number) [
  | None ↦ past
  | Some c ↦ session_alone turns script session (with_entry script past (entry_due script past.run session c))
]

-- the sessions from a number on, one after another; a command has three turns at most
abbrev pub sessions_alone : Script → ℕ → List (List Command) → SoFar → SoFar
sessions_alone script session [] past = past
sessions_alone script session (commands ∷ rest) past = sessions_alone script (session + 1) rest (session_alone (3 * length commands) script session past)

-- The history of a script that runs from a state without faults, one session after another.
abbrev pub history_alone : State → Script → List Entry
history_alone start script = (sessions_alone script 0 script.sessions (record { run = begins start; history = [] })).history
