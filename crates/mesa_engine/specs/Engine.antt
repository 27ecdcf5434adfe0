-- What an engine keeps between turns.
use Rattle.std.specs.Prelude.{◌≡◌, ℕ, ◌≤◌, List, [], true, false, not, Option, length, vec_capacity}
use Rattle.std.specs.List.{AllByRecursion}
use Rattle.mesa_io.specs.Causes.{Rose}
use Rattle.mesa_disk.specs.Image.{Image}
use Rattle.mesa_disk.specs.Story.{Story}
use Rattle.mesa_model.specs.declared.commands.Script.{Script}
use Rattle.mesa_invariant_spec.specs.mesa_history_spec.Run.{State}
use Rattle.mesa_invariant_spec.specs.mesa_history_spec.Rows.{Rows}
use Rattle.mesa_invariant_spec.specs.Turns.{Faults, Shown}
use Rattle.mesa_invariant_spec.specs.Undamaged.{NoneDamaged}
use Rattle.mesa_engine.specs.declared.log.Log.{Log}
use Rattle.mesa_engine.specs.EngineState.{EngineState}
use Rattle.mesa_engine.specs.Vault.{Origin, Starts, IsVaultAt}
use Rattle.mesa_engine.specs.Memory.{Memory}

-- a run as the parts of its name tell it
abbrev pub starts_of : Script → (Rows → State) → (Rows → Type 0) → (Rows → Origin) → ℕ → ℕ → Option (List ℕ) → Starts
starts_of script start sound origin since counted at_start = record { script = script; start = start; sound = sound; since = since; counted = counted; at_start = at_start; origin = origin }

-- What is seen of an engine: what a caller sees of a vault, the state, what a read of the disk gives, where that is told, both counts of the disk's faults, and what the sink has been given, where that is known.
pub record Standing : Type 0 where
  pub shown : Shown
  pub state : EngineState
  pub told : Option Image
  pub faults : Faults
  pub sink : Option (List ℕ)

-- how many turns a run has at most: three for each of the commands that a script may have
abbrev pub most_turns : ℕ
most_turns = 600000

-- What an engine keeps: it is a vault, with room for each turn that the run may have yet. No lease was granted or renewed behind the last turn; no entry is from before the run; the sink's count of faults rose in the run exactly where its printer is broken; before the first turn the sink has what it had at the start; and where the store was sound no entry met damage.
pub record IsEngine {K : Type 0} (held : K → Option (List ℕ)) (faults : K → ℕ) (n : Starts) (turns sinks : ℕ) (m : Memory) (story : Story) (log : Log K) : Type 0 where
  pub vault : IsVaultAt n m.state story (held log.printer.sink) log.history.items (not log.printer.broken) log.refused
  pub room : turns ≤ vec_capacity log.history
  pub few : turns ≤ most_turns
  pub leased : m.leased ≤ length log.history.items
  pub begun : AllByRecursion (λ e. n.since ≤ e.moment) log.history.items
  pub failed : log.printer.broken ≡ true → Rose sinks (faults log.printer.sink)
  pub whole : log.printer.broken ≡ false → faults log.printer.sink ≡ sinks
  pub first : log.history.items ≡ [] → held log.printer.sink ≡ n.at_start
  pub undamaged : (w : Rows) → n.sound w → NoneDamaged log.history.items
