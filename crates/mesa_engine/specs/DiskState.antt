-- What a run leaves on its disk.
use Rattle.std.specs.Prelude.{◌≡◌, List, None, Some}
use Rattle.mesa_disk.specs.Image.{Image}
use Rattle.mesa_disk.specs.Story.{Story}
use Rattle.mesa_model.specs.declared.commands.Script.{Script}
use Rattle.mesa_model.specs.declared.entries.Entry.{Entry}
use Rattle.mesa_invariant_spec.specs.mesa_history_spec.Found.{kept_of}
use Rattle.mesa_invariant_spec.specs.mesa_history_spec.Run.{State}
use Rattle.mesa_catalog.specs.mesa_store_spec.Sound.{StandsFor}
use Rattle.mesa_invariant_spec.specs.Invariant.{run_at}

-- Where nothing closed the warehouse, a read gives an image that is sound and stands for the state behind a history.
abbrev pub ReadsState : Script → State → List Entry → Story → Type 0
ReadsState script start h story =
    let s = (run_at script start h).state in
    s.warehouse.closed ≡ None → (i : Image) × (story.told ≡ Some i) × StandsFor i (kept_of s)
