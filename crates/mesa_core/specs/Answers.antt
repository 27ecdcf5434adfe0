-- Faults of files that sessions were building, and the entries that answer them.
use Rattle.std.specs.Prelude.{◌≡◌, ◌≤◌, ◌<◌, ◌+◌, ℕ, List, Some, slice_get}
use Rattle.std.specs.List.{AllByRecursion}
use Rattle.mesa_io.specs.Causes.{last}
use Rattle.mesa_turn.specs.Passes.{Known}
use Rattle.mesa_model.specs.declared.commands.Script.{Script}
use Rattle.mesa_model.specs.declared.entries.Entry.{Entry}
use Rattle.mesa_model.specs.Entry.{history_of}
use Rattle.mesa_recast_turns.specs.mesa_history_spec.Counting.{count_in, is_bench_fault}
use Rattle.mesa_recast_turns.specs.mesa_history_spec.Run.{State, begins}

-- how many entries of a history answer a fault of a file that a session was building
abbrev pub answered_in : Script → State → ℕ → List Entry → ℕ
answered_in script start session h = count_in (is_bench_fault session) script (begins start) h

-- the same of all that a pass has seen
abbrev pub answered : Script → State → ℕ → Known → ℕ
answered script start session p = answered_in script start session (history_of p.seen)

-- every entry came while the disk's clock was below its last value
abbrev pub AreTimely : List Entry → Type 0
AreTimely h = AllByRecursion (λ (e : Entry). e.moment < last) h

-- From one pass to another a session's entries answered no more faults of its bench than the bench's count rose by, and those that were counted before and not answered yet, while neither the clock nor the count stands at its last value.
pub record Answers (script : Script) (start : State) (session : ℕ) (p q : Known) (before now owed : ℕ) : Type 0 where
  pub later : now < last → before ≤ now
  pub counted : now < last → AreTimely (history_of q.seen) → answered script start session q + before ≤ answered script start session p + now + owed

-- A bench's count rose by at least as many faults as are owed an answer since, while it is below its last value.
abbrev pub Owes : (before now owed : ℕ) → Type 0
Owes before now owed = now < last → before + owed ≤ now

-- The same of a session by all of a history: it answered no more faults than its bench's count rose by.
abbrev pub HasCounted : Script → State → List Entry → (session before now : ℕ) → Type 0
HasCounted script start h session before now = AreTimely h → now < last → before + answered_in script start session h ≤ now

-- The same of each session from a number on, whose benches these are.
abbrev pub HaveCounted : {B : Type 0} → (B → ℕ) → Script → State → List Entry → ℕ → List B → List B → Type 0
HaveCounted {B} faults script start h next old new = (i : ℕ) (before now : B) → slice_get old i ≡ Some before → slice_get new i ≡ Some now → HasCounted script start h (next + i) (faults before) (faults now)
