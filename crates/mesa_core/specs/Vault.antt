-- What is seen of a vault, and what it keeps.
use Rattle.std.specs.Prelude.{◌≡◌, ℕ, List, Option, Some}
use Rattle.mesa_disk.specs.Image.{Image}
use Rattle.mesa_engine.specs.EngineState.{EngineState}
use Rattle.mesa_model.specs.declared.commands.Script.{Script}
use Rattle.mesa_recast_turns.specs.mesa_history_spec.Rows.{Rows}
use Rattle.mesa_recast_turns.specs.mesa_invariant_spec.Turns.{Faults, Shown}

-- What a caller sees of a vault between turns, and the run's number; and, by which it is said what becomes of files, the state, and what a read of the disk gives, where that is told; both counts of the disk's faults, and what the sink has been given, where that is known.
pub record Stand : Type 0 where
  pub shown : Shown
  pub run : ℕ
  pub state : EngineState
  pub told : Option Image
  pub faults : Faults
  pub sink : Option (List ℕ)

-- Where the store was sound when the run began, each finished file tells its bytes.
abbrev pub AllTold : {M : Type 0} → (M → Option (List ℕ)) → (Rows → Type 0) → Type 0
AllTold {M = M} bytes sound = (w : Rows) → sound w → (file : M) → (b : List ℕ) × (bytes file ≡ Some b)

-- What a vault keeps beside its engine: its script is that of its run, and finished files tell their bytes.
pub record IsOfRun {M : Type 0} (bytes : M → Option (List ℕ)) (sound : Rows → Type 0) (run borrowed : Script) : Type 0 where
  pub script : borrowed ≡ run
  pub told : AllTold bytes sound
