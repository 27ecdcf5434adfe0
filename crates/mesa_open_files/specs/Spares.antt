-- Further readers of a task's files.
use Rattle.std.specs.Prelude.{◌≡◌, ℕ, List, [], ◌∷◌, length, Option, None, Some, ⊤}
use Rattle.std.specs.List.{AllByRecursion}
use Rattle.sha2.specs.Sha256.{sha256}
use Rattle.mesa_file.specs.declared.damage.Damage.{Damage}
use Rattle.mesa_file.specs.declared.file_ref.FileRef.{FileRef}
use Rattle.mesa_schema.specs.Changes.{columns_at}
use Rattle.mesa_scan.specs.mesa_delta_format.Indexed.{IsIndexOf}
use Rattle.mesa_delta.specs.Reading.{index_of}
use Rattle.mesa_scan.specs.mesa_delta_format.Summary.{file_layout}
use Rattle.mesa_delta.specs.declared.input.Input.{Input}
use Rattle.mesa_scan.specs.Cursors.{IsInput, reader_in}
use Rattle.mesa_open_files.specs.Inputs.{lineage_of}
use Rattle.mesa_open_files.specs.declared.merging.Spare.{Spare}
use Rattle.mesa_open_files.specs.declared.merging.Task.{Task}

-- An input is of the file of this reference: its index is what a tail with the recorded digest tells.
abbrev pub IsReferredBy : {R : Type 0} → FileRef → Input R → Type 0
IsReferredBy file i = (tail : List ℕ) × IsIndexOf file (file_layout (columns_at (lineage_of i) i.epoch) file) tail (index_of i.reader) × (sha256 tail ≡ file.digest)

-- An input reads the file of another one: both are of one reference, and of one table or view at one epoch; and where the other one tells bytes, it tells the same.
pub record IsSpareInput {R : Type 0} (bytes : R → Option (List ℕ)) (own spare : Input R) : Type 0 where
  pub file : FileRef
  pub first : IsReferredBy file own
  pub second : IsReferredBy file spare
  pub lineage : lineage_of spare ≡ lineage_of own
  pub epoch : spare.epoch ≡ own.epoch
  pub input : IsInput bytes spare
  pub told : (b : List ℕ) → bytes (reader_in own) ≡ Some b → bytes (reader_in spare) ≡ Some b

-- each the file of the one at its place
abbrev pub AreSpareInputs : {R : Type 0} → (R → Option (List ℕ)) → List (Input R) → List (Input R) → Type 0
AreSpareInputs bytes [] [] = ⊤
AreSpareInputs bytes [] (spare ∷ more) = ⊥
AreSpareInputs bytes (own ∷ owns) [] = ⊥
AreSpareInputs bytes (own ∷ owns) (spare ∷ more) = IsSpareInput bytes own spare × AreSpareInputs bytes owns more

-- The readers of a further part read just the files of the task, in its order.
abbrev pub IsSpareOf : {R : Type 0} → (R → Option (List ℕ)) → Task R → Spare R → Type 0
IsSpareOf bytes t s = AreSpareInputs bytes t.inputs.items s.inputs.items

-- A task has readers for so many further parts, each of just its files; and none where one of the files is damaged.
pub record HasSpares {R : Type 0} (bytes : R → Option (List ℕ)) (more : ℕ) (t : Task R) : Type 0 where
  pub each : AllByRecursion (IsSpareOf bytes t) t.spare.items
  pub count : t.damage ≡ None → length t.spare.items ≡ more
  pub none : (d : Damage) → t.damage ≡ Some d → t.spare.items ≡ []
