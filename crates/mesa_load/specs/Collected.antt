-- What is known of drafts that are opened or given back.
use Rattle.std.specs.Prelude.{◌≡◌, ℕ, List, [], ◌∷◌, ◌++◌, Option, Some, Result, Ok, Err, ⊤}
use Rattle.mesa_open_files.specs.mesa_io.Causes.{Rose}
use Rattle.mesa_load.specs.FilesToWrite.{IsCounted}
use Rattle.mesa_open_files.specs.declared.made.MadeFile.{MadeFile}
use Rattle.mesa_open_files.specs.declared.prepared.LoadError.{LoadError}
use Rattle.mesa_open_files.specs.declared.prepared.LoadError.TheVariants as load
use Rattle.mesa_load.specs.declared.building.WriteState.{WriteState}
use Rattle.mesa_load.specs.declared.building.WriteState.TheVariants as progress

-- A draft is open, empty, has its id, and has met no fault.
abbrev pub IsBegun : {M T : Type 0} → (T → Option (List ℕ)) → (T → ℕ) → (T → ℕ) → WriteState M T → Type 0
IsBegun bytes id_of faults (progress.Begun id draft) = ((b : List ℕ) → bytes draft ≡ Some b → b ≡ []) × (id_of draft ≡ id) × (faults draft ≡ 0)
IsBegun bytes id_of faults (progress.Finished file) = ⊥
IsBegun bytes id_of faults (progress.Failed error draft) = ⊥
IsBegun bytes id_of faults progress.Lent = ⊥

-- A draft that failed as a device does has counted it, and one that didn't has counted none.
abbrev pub HasCause : {M T : Type 0} → (T → ℕ) → WriteState M T → Type 0
HasCause faults (progress.Failed error draft) = IsCounted error (faults draft)
HasCause faults (progress.Finished file) = ⊤
HasCause faults (progress.Begun id draft) = faults draft ≡ 0
HasCause faults progress.Lent = ⊤

-- a finished file
abbrev pub finished : {M T : Type 0} → MadeFile M → WriteState M T
finished file = progress.Finished file

-- Why files are not written: a fault is counted by the bench, and where memory is wanting none was met; the rows are no reason.
abbrev pub IsUnwritten : ℕ → ℕ → LoadError → Type 0
IsUnwritten before now (load.Batch b) = ⊥
IsUnwritten before now load.Draft = Rose before now
IsUnwritten before now load.Memory = now ≡ before

-- files, with one more
abbrev pub IsKept : {M T : Type 0} → List (MadeFile M) → WriteState M T → List (MadeFile M) → Type 0
IsKept files (progress.Finished file) more = more ≡ files ++ file ∷ []
IsKept files (progress.Failed error draft) more = ⊥
IsKept files (progress.Begun id draft) more = ⊥
IsKept files progress.Lent more = ⊥

-- the graver of two ends: an error before none, and a draft's fault before want of memory
abbrev pub graver : {A : Type 0} → Result A LoadError → Result A LoadError → Result A LoadError
graver (Ok done) next = next
graver (Err (load.Batch refusal)) next = Err (load.Batch refusal)
graver (Err load.Draft) next = Err load.Draft
graver (Err load.Memory) (Ok done) = Err load.Memory
graver (Err load.Memory) (Err e) = Err e
