-- Faults of the benches, counted against the entries that answer them.
use Rattle.std.specs.Prelude.{◌≡◌, ℕ, ◌+◌, ◌<◌, ◌≤◌, List, Some, slice_get}
use Rattle.mesa_io.specs.Causes.{last}
use Rattle.mesa_disk.specs.Story.{Story}
use Rattle.mesa_model.specs.declared.commands.Script.{Script}
use Rattle.mesa_model.specs.declared.entries.Entry.{Entry}
use Rattle.mesa_session.specs.mesa_history_spec.Counting.{count_in, is_bench_fault}
use Rattle.mesa_session.specs.mesa_history_spec.Run.{Run}

-- Faults of benches aren't reused: while neither the disk's clock nor a bench's count stands at its last value, the count of a session's bench rose by at least one for each entry that answers a fault of it.
abbrev pub HasBenchCounts : {B : Type 0} → (B → ℕ) → Story → Script → Run → List Entry → (old new : List B) → Type 0
HasBenchCounts {B} faults story script r h old new =
    story.moment < last → (session : ℕ) (before after : B) → slice_get old session ≡ Some before → slice_get new session ≡ Some after → faults after < last
    → faults before + count_in (is_bench_fault session) script r h ≤ faults after
