-- One turn of a vault, as its caller sees it.
use Rattle.std.specs.Prelude.{◌≡◌, ◌⊎◌, ℕ, ◌<◌, ◌≤◌, List, [], ◌∷◌, ◌++◌, Bool, true, false, ◌||◌, not, IsTrue}
use Rattle.std.specs.List.{AllByRecursion}
use Rattle.mesa_disk.specs.mesa_io.Causes.{last, Rose}
use Rattle.mesa_disk.specs.Story.{Story}
use Rattle.mesa_history_spec.specs.mesa_model.declared.commands.Command.{Command}
use Rattle.mesa_history_spec.specs.mesa_model.declared.commands.Command.TheVariants as command
use Rattle.mesa_history_spec.specs.mesa_model.declared.commands.Script.{Script}
use Rattle.mesa_history_spec.specs.mesa_model.declared.entries.Entry.{Entry}
use Rattle.mesa_history_spec.specs.mesa_model.declared.entries.Kind.{Kind}
use Rattle.mesa_history_spec.specs.mesa_model.declared.entries.Outcome.{Outcome}
use Rattle.mesa_history_spec.specs.mesa_model.declared.entries.Outcome.TheVariants as outcome
use Rattle.mesa_history_spec.specs.mesa_model.Entry.{IsShort}
use Rattle.mesa_history_spec.specs.Run.{State, Stage, Run, place_of, begins}
use Rattle.mesa_history_spec.specs.Counting.{is_bench_fault, is_disk_fault}
use Rattle.mesa_history_spec.specs.Replay.{is_skip}
use Rattle.mesa_history_spec.specs.Legal.{AllFit, fits_sink, is_query, is_work}
use Rattle.mesa_history_spec.specs.Turns.{IsDue, place_then}
use Rattle.mesa_invariant_spec.specs.Invariant.{run_at}

-- What a caller sees of a vault: the history so far, whether its sink hasn't failed, and the disk's clock.
pub record Shown : Type 0 where
  pub history : List Entry
  pub running : Bool
  pub clock : ℕ

-- the entry of a turn
abbrev pub entry : ℕ → ℕ → Kind → Outcome → ℕ → Entry
entry session number k o moment = record { session = session; command = number; kind = k; outcome = o; moment = moment }

-- One turn was taken: there is one entry more, at the disk's clock, which is skipped exactly where the sink had failed before.
pub record IsTurn (old new : Shown) (session number : ℕ) (k : Kind) : Type 0 where
  pub outcome : Outcome
  pub grew : new.history ≡ old.history ++ entry session number k outcome new.clock ∷ []
  pub skipped : is_skip outcome ≡ not old.running
  pub still : new.running ≡ true → old.running ≡ true

-- What a session relies on of a vault: each entry of its history is one that the run may have where it comes, and has its places in its number; and whether the sink has failed fits what the last turn did to it.
pub record IsSeen (script : Script) (start : State) (v : Shown) : Type 0 where
  pub fits : AllFit script (begins start) v.history
  pub short : AllByRecursion IsShort v.history
  pub sink : IsTrue (fits_sink (run_at script start v.history).last (not v.running))

-- A turn took its session's command to a stage, or cut the session off where the sink had failed before.
pub record Takes (script : Script) (start : State) (old new : Shown) (session number : ℕ) (k : Kind) (stage : Stage) : Type 0 where
  pub turn : IsTurn old new session number k
  pub place : place_of (run_at script start new.history) session ≡ place_then (not old.running) number stage
  pub seen : IsSeen script start new

-- While the clock is below its last value, the entry that a turn added answers a fault of a file that its session was building only where this is so.
abbrev pub AnswersDraft : Script → State → Shown → Shown → ℕ → Type 0 → Type 0
AnswersDraft script start old new session Failed = new.clock < last → (e : Entry) → new.history ≡ old.history ++ e ∷ [] → IsTrue (is_bench_fault session (run_at script start old.history) e) → Failed

-- both counts of a disk's faults: of its calls, and of its readers
pub record Faults : Type 0 where
  pub calls : ℕ
  pub reads : ℕ

abbrev pub faults_of : Story → Faults
faults_of story = record { calls = story.faults; reads = story.read_faults }

-- Neither count fell.
pub record NoneFell (old new : Faults) : Type 0 where
  pub calls : old.calls ≤ new.calls
  pub reads : old.reads ≤ new.reads

-- One of both counts rose, or stands at its last value.
abbrev pub SomeRose : Faults → Faults → Type 0
SomeRose old new = Rose old.calls new.calls ⊎ Rose old.reads new.reads

-- While the clock is below its last value, the entry that a turn added answers a fault of the disk only where this is so.
abbrev pub AnswersDisk : Script → State → Shown → Shown → Type 0 → Type 0
AnswersDisk script start old new Failed = new.clock < last → (e : Entry) → new.history ≡ old.history ++ e ∷ [] → IsTrue (is_disk_fault (run_at script start old.history) e) → Failed

-- ---- what a call asks of its command

-- whether a command loads rows
abbrev pub is_load : Command → Bool
is_load (command.Load rows) = true
is_load c = false

-- whether a command merges a range of a table
abbrev pub is_merge : Command → Bool
is_merge (command.Work words) = true
is_merge c = false

-- whether a command recasts a table
abbrev pub is_recast : Command → Bool
is_recast (command.Recast words) = true
is_recast c = false

-- a command that one turn decides
abbrev pub is_simple : Command → Bool
is_simple c = not (is_load c || (is_query c || is_work c))

-- A session's command of this number is of a sort, and has come to a stage.
pub record Asks (script : Script) (r : Run) (session number : ℕ) (stage : Stage) (sort : Command → Bool) : Type 0 where
  pub asked : Command
  pub is : IsTrue (sort asked)
  pub due : IsDue script r session number asked stage

-- ---- how a turn ends

-- the outcome of a load's look: it is skipped where the sink has failed, and else it found the tables, or no memory for them
abbrev pub looking : (running found : Bool) → Outcome
looking false found = outcome.Skipped
looking true true = outcome.Stands
looking true false = outcome.Memory
