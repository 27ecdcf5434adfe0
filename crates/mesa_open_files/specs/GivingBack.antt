-- Readers that are given back.
use Rattle.std.specs.Prelude.{◌≡◌, ◌⊎◌, ℕ, ◌<◌, ◌≤◌, List, [], ◌∷◌, ◌++◌, map, flat_map}
use Rattle.std.specs.List.{AllByRecursion}
use Rattle.mesa_scan.specs.mesa_io.Causes.{Rose}
use Rattle.mesa_disk.specs.Story.{Story}
use Rattle.mesa_delta.specs.declared.input.Input.{Input}
use Rattle.mesa_scan.specs.Cursors.{reader_in}
use Rattle.mesa_open_files.specs.declared.merging.Spare.{Spare}
use Rattle.mesa_open_files.specs.declared.merging.Task.{Task}
use Rattle.mesa_open_files.specs.declared.querying.Pinned.{Pinned}
use Rattle.mesa_open_files.specs.declared.querying.PinnedInput.{PinnedInput}

-- One of these inputs' readers has failed, so that a fault is counted when they are given back.
abbrev pub SomeFailed : {R : Type 0} → (R → ℕ) → List (Input R) → Type 0
SomeFailed faults [] = ⊥
SomeFailed faults (i ∷ inputs) = (0 < faults (reader_in i)) ⊎ SomeFailed faults inputs

-- Readers were given back: each that has failed is counted, and where none has, no count changes.
pub record GivesBack {R : Type 0} (faults : R → ℕ) (inputs : List (Input R)) (old new : Story) : Type 0 where
  pub calls : new.faults ≡ old.faults
  pub later : old.read_faults ≤ new.read_faults
  pub counted : AllByRecursion (λ (i : Input R). 0 < faults (reader_in i) → Rose old.read_faults new.read_faults) inputs
  pub quiet : AllByRecursion (λ (i : Input R). faults (reader_in i) ≡ 0) inputs → new.read_faults ≡ old.read_faults

-- the inputs of a further part
abbrev pub spare_inputs : {R : Type 0} → Spare R → List (Input R)
spare_inputs s = s.inputs.items

-- all inputs of a task: its own, and then those of each further part
abbrev pub task_inputs : {R : Type 0} → Task R → List (Input R)
task_inputs t = t.inputs.items ++ flat_map spare_inputs t.spare.items

-- the inputs of a pinned query
abbrev pub pinned_inputs : {R : Type 0} → Pinned R → List (Input R)
pinned_inputs {R = R} p = map (λ (i : PinnedInput R). i.input) p.inputs.items
