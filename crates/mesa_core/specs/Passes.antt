-- What a session knows of a run by its pass, and what its turns make of the pass.
use Rattle.std.specs.Prelude.{◌≡◌, ◌≢◌, ◌⊎◌, ◌≤◌, ◌<◌, ◌+◌, ◌*◌, ℕ, List, [], ◌∷◌, Bool, false, Some, IsTrue, length, slice_get}
use mathlib.Core.List.{IsPrefix}
use Rattle.mesa_turn.specs.History.{has, has_at, entries_of}
use Rattle.mesa_turn.specs.Passes.{Known, IsExact}
use Rattle.mesa_model.specs.declared.commands.Command.{Command}
use Rattle.mesa_model.specs.declared.commands.Script.{Script}
use Rattle.mesa_model.specs.Entry.{history_of}
use Rattle.mesa_recast_turns.specs.mesa_history_spec.Run.{State, Stage, Place, Run, place_of, command_at, begins}
use Rattle.mesa_recast_turns.specs.mesa_history_spec.Legal.{AllFit, has_ended}
use Rattle.mesa_recast_turns.specs.mesa_invariant_spec.Invariant.{run_at}

-- what stands after the turns that a pass has seen
abbrev pub run_seen : Script → State → List ℕ → Run
run_seen script start seen = run_at script start (history_of seen)

-- a command that has come to a stage
abbrev pub at_stage : ℕ → Stage → Place
at_stage number stage = record { number = number; stage = stage }

-- A session's command of this number is of a sort.
pub record HasSort (script : Script) (session number : ℕ) (sort : Command → Bool) : Type 0 where
  pub asked : Command
  pub known : command_at script session number ≡ Some asked
  pub is : IsTrue (sort asked)

-- ---- one session

-- A pass by which a session takes its turns: it holds the session's name, and all that it has seen may be of the run. That of the prologue holds all names, and has seen no turn of another session.
pub record Holds (script : Script) (start : State) (p : Known) (session : ℕ) : Type 0 where
  pub held : IsTrue (has p.names session)
  pub exact : IsExact p
  pub fits : AllFit script (begins start) (history_of p.seen)
  pub first : session ≡ 0 → (run_seen script start p.seen).prologue_over ≡ false
  pub whole : session ≡ 0 → (n : ℕ) → n < 8 → IsTrue (has p.names n)

-- The same, and where the session is by what the pass has seen.
pub record Mine (script : Script) (start : State) (p : Known) (session : ℕ) (place : Place) : Type 0 where
  pub holds : Holds script start p session
  pub at : place_of (run_seen script start p.seen) session ≡ place

-- At most so many turns of a session took a pass to another: it has seen more, keeps its names and its own positions, and no entry of another name that it holds came to what it has seen.
pub record Took (session : ℕ) (p q : Known) (turns : ℕ) : Type 0 where
  pub lock : q.lock ≡ p.lock
  pub names : q.names ≡ p.names
  pub limit : q.limit ≡ p.limit
  pub room : p.room ≤ q.room + turns
  pub seen : IsPrefix p.seen q.seen
  pub own : (k : ℕ) → IsTrue (has p.own k) → IsTrue (has q.own k)
  pub others : (n : ℕ) → IsTrue (has p.names n) → n ≢ session → entries_of (n ∷ []) q.seen ≡ entries_of (n ∷ []) p.seen

-- The positions that became a pass's own are those of entries of a session.
abbrev pub Gains : ℕ → Known → Known → Type 0
Gains session p q = (k : ℕ) → IsTrue (has q.own k) → IsTrue (has p.own k) ⊎ IsTrue (has_at (session ∷ []) (slice_get q.seen k))

-- A session has ended: by all that the pass has seen, which may be of the run, it has had all of its turns, or its last one was skipped.
pub record HasEnded (script : Script) (start : State) (p : Known) (session : ℕ) : Type 0 where
  pub exact : IsExact p
  pub fits : AllFit script (begins start) (history_of p.seen)
  pub ended : IsTrue (has_ended script (run_seen script start p.seen) session)

-- ---- several

-- The pass of the sessions from a number on, none of which has had a turn, once the prologue has ended. It keeps the prologue's name.
pub record Waits (script : Script) (start : State) (p : Known) (next : ℕ) : Type 0 where
  pub first : IsTrue (has p.names 0)
  pub later : (n : ℕ) → next ≤ n → n < 8 → IsTrue (has p.names n)
  pub none : (n : ℕ) → next ≤ n → n < 8 → entries_of (n ∷ []) p.seen ≡ []
  pub prologue : HasEnded script start p 0

-- The prologue and the sessions from a number on have ended.
pub record HaveEnded (script : Script) (start : State) (p : Known) (next : ℕ) : Type 0 where
  pub first : IsTrue (has p.names 0)
  pub later : (n : ℕ) → next ≤ n → n < 8 → IsTrue (has p.names n)
  pub prologue : HasEnded script start p 0
  pub ended : (s : ℕ) → next ≤ s → s < length script.sessions → HasEnded script start p s

-- at most so many turns of some sessions: three for each command
abbrev pub turns_of : List (List Command) → ℕ
turns_of [] = 0
turns_of (commands ∷ rest) = 3 * length commands + turns_of rest
