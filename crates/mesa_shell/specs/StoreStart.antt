-- Where a run over a store starts.
use Rattle.std.specs.Prelude.{◌≡◌, ℕ, List, [], Option, None, Some}
use Rattle.mesa_disk.specs.Story.{Story}
use Rattle.mesa_model.specs.declared.commands.Script.{Script}
use Rattle.mesa_session.specs.mesa_history_spec.Machine.{machine_of}
use Rattle.mesa_session.specs.mesa_history_spec.Run.{State}
use Rattle.mesa_session.specs.mesa_history_spec.Found.{Kept}
use Rattle.mesa_session.specs.mesa_history_spec.Rows.{Rows}
use Rattle.mesa_engine.specs.mesa_store_spec.Catalog.{Catalog}
use Rattle.mesa_engine.specs.mesa_store_spec.Contents.{kept_of}
use Rattle.mesa_recover.specs.Opening.{IsSoundStart}

-- the state of a run that starts from what a store keeps: no pins, no leases, not closed
abbrev pub state_of : Script → Kept → State
state_of script kept = record { warehouse = record { store = kept.store; next = kept.next; given = []; pins = []; closed = None }; machine = machine_of script kept.ranges }

-- R0: the state of a run over a catalogue, where the files have these rows.
abbrev pub start_of : Script → Catalog → Rows → State
start_of script c rows = state_of script (kept_of rows c)

-- whatever file is finished tells its bytes
abbrev pub AreTold : {M : Type 0} → (M → Option (List ℕ)) → Type 0
AreTold {M} bytes = (made : M) → (b : List ℕ) × (bytes made ≡ Some b)

-- HONEST and SOUND-START, but for the clock's end: finished files tell their bytes, what a read gives is sound with this catalogue and these rows, and each image that a crash may leave stands for the same.
pub record IsSoundStore {M : Type 0} (bytes : M → Option (List ℕ)) (story : Story) (c : Catalog) (rows : Rows) : Type 0 where
  pub files : AreTold bytes
  pub start : IsSoundStart story c rows
