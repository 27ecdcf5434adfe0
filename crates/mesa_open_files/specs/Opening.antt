-- What is met where files are opened.
use Rattle.std.specs.Prelude.{◌≡◌, ℕ, ◌+◌, ◌<◌, ◌≤◌, ◌⊎◌, List, [], ◌∷◌, Bool, true, false, Option, None, Some, Result, Ok, Err, ⊤}
use Rattle.sha2.specs.Sha256.{sha256}
use Rattle.mesa_scan.specs.mesa_io.Causes.{last}
use Rattle.mesa_file.specs.declared.damage.Damage.{Damage}
use Rattle.mesa_file.specs.declared.damage.Seen.TheVariants as seen
use Rattle.mesa_file.specs.declared.file_ref.FileRef.{FileRef}
use Rattle.mesa_history_spec.specs.mesa_columns.Columns.{Columns}
use Rattle.mesa_schema.specs.Changes.{columns_at, epoch_of}
use Rattle.mesa_history_spec.specs.mesa_columns.declared.rows.Row.{Row}
use Rattle.mesa_disk.specs.Image.{Image, file_of}
use Rattle.mesa_disk.specs.Story.{Story}
use Rattle.mesa_scan.specs.mesa_block.Layout.{Layout}
use Rattle.mesa_delta.specs.declared.error.FileError.{FileError}
use Rattle.mesa_delta.specs.declared.error.FileError.TheVariants as file_error
use Rattle.mesa_scan.specs.mesa_delta_format.File.{IsFile}
use Rattle.mesa_scan.specs.mesa_delta_format.Indexed.{Indexed, IsIndexOf}
use Rattle.mesa_delta.specs.Reading.{IsOver, IsTailDamage, index_of}
use Rattle.mesa_scan.specs.mesa_delta_format.Summary.{IsReferenceOf, file_layout}
use Rattle.mesa_delta.specs.declared.input.Input.{Input}
use Rattle.mesa_scan.specs.Cursors.{IsInput, reader_in}
use Rattle.mesa_open_files.specs.Inputs.{lineage_of}
use Rattle.mesa_open_files.specs.declared.opening.Met.{Met}
use Rattle.mesa_open_files.specs.declared.opening.Met.TheVariants as met
use Rattle.mesa_open_files.specs.declared.opening.Opened.{Opened}
use Rattle.mesa_open_files.specs.declared.opening.Unopened.{Unopened}
use Rattle.mesa_open_files.specs.declared.opening.Unopened.TheVariants as un
use Rattle.mesa_open_files.specs.declared.opening.Wanted.{Wanted}

-- the columns of a wanted file's rows
abbrev pub wanted_columns : Wanted → Columns
wanted_columns w = columns_at w.evolving.now.value w.epoch

-- and how they stand in its blocks
abbrev pub wanted_layout : Wanted → Layout
wanted_layout w = file_layout (wanted_columns w) w.file.now

-- A wanted file's epoch is one that its table had.
abbrev pub HasEpoch : Wanted → Type 0
HasEpoch w = w.epoch ≤ epoch_of w.evolving.now.value

-- ---- counts of faults

abbrev pub one_if : Bool → ℕ
one_if true = 1
one_if false = 0

-- The counts of faults never fall. A fault that is answered is counted, where neither count stands at its last value; without one both stay.
pub record Counted (old new : Story) (fault : Bool) : Type 0 where
  pub faults : old.faults ≤ new.faults
  pub read_faults : old.read_faults ≤ new.read_faults
  pub both : new.faults < last → new.read_faults < last → old.faults + old.read_faults + one_if fault ≤ new.faults + new.read_faults
  pub quiet : fault ≡ false → (new.faults ≡ old.faults) × (new.read_faults ≡ old.read_faults)

-- a fault was met
abbrev pub is_fault_met : {R : Type 0} → Met R → Bool
is_fault_met (met.Input i) = false
is_fault_met (met.Damaged d) = false
is_fault_met met.Fault = true
is_fault_met met.Memory = false

-- a file was not read
abbrev pub is_read_fault : {T : Type 0} → Result T FileError → Bool
is_read_fault (Ok x) = false
is_read_fault (Err file_error.Read) = true
is_read_fault (Err (file_error.Damaged d)) = false
is_read_fault (Err file_error.Memory) = false

-- a fault ended the opening
abbrev pub is_fault_in : {R : Type 0} → Result (Opened R) Unopened → Bool
is_fault_in (Ok o) = false
is_fault_in (Err un.Fault) = true
is_fault_in (Err un.Memory) = false

-- ---- files

-- A reader has the bytes that a read of the disk gives of a file.
abbrev pub HasBytes : {R : Type 0} → (R → Option (List ℕ)) → Option Image → ℕ → R → Type 0
HasBytes bytes told id reader = (i : Image) → told ≡ Some i → (b : List ℕ) × (file_of i id ≡ Some b) × (bytes reader ≡ Some b)

-- Where a read of the disk isn't told, a reader tells no bytes.
abbrev pub IsUntold : {R : Type 0} → (R → Option (List ℕ)) → Option Image → R → Type 0
IsUntold bytes told reader = told ≡ None → bytes reader ≡ None

-- An index is true of the file of an id: what a read of the disk gives has the file, and its bytes end with the tail of the index.
abbrev pub IsTrueOf : Option Image → ℕ → Indexed → Type 0
IsTrueOf told id x = (i : Image) → told ≡ Some i → (b : List ℕ) × (file_of i id ≡ Some b) × IsOver x b

-- An index is what a tail with the recorded digest tells.
abbrev pub IsRecordedIndex : {R : Type 0} → Wanted → Input R → Type 0
IsRecordedIndex w i = (tail : List ℕ) × IsIndexOf w.file.now (wanted_layout w) tail (index_of i.reader) × (sha256 tail ≡ w.file.now.digest)

-- An input of a wanted file, whose tail is the recorded one. Its reader has not failed.
pub record IsOpened {R : Type 0} (bytes : R → Option (List ℕ)) (faults : R → ℕ) (told : Option Image) (w : Wanted) (i : Input R) : Type 0 where
  pub lineage : lineage_of i ≡ w.evolving.now.value
  pub epoch : i.epoch ≡ w.epoch
  pub input : IsInput bytes i
  pub index : IsRecordedIndex w i
  pub content : HasBytes bytes told w.file.now.id (reader_in i)
  pub untold : IsUntold bytes told (reader_in i)
  pub fresh : faults (reader_in i) ≡ 0

-- A file is absent, and that is told.
pub record IsAbsent (told : Option Image) (file : FileRef) (d : Damage) : Type 0 where
  pub shown : d ≡ record { file = file.id; place = 0; want = seen.Length file.len; found = seen.Absent }
  pub none : (i : Image) → told ≡ Some i → file_of i file.id ≡ None

-- A file's length or its tail isn't the recorded one, and that is told.
pub record IsMarred (told : Option Image) (s : Columns) (file : FileRef) (d : Damage) : Type 0 where
  pub content : Option (List ℕ)
  pub size : ℕ
  pub read : (i : Image) → told ≡ Some i → (b : List ℕ) × (file_of i file.id ≡ Some b) × (content ≡ Some b)
  pub shown : IsTailDamage content size (file_layout s file) file d

-- A file isn't the recorded one: what a read gives of it is no file of the reference.
abbrev pub IsUnsound : Option Image → Columns → FileRef → Type 0
IsUnsound told s file = (i : Image) → told ≡ Some i → (b : List ℕ) (rows : List Row) → file_of i file.id ≡ Some b → IsFile (file_layout s file) rows b → IsReferenceOf (file_layout s file) file.id rows file → ⊥

-- The damage of a file that isn't the recorded one.
pub record IsDamageOf (told : Option Image) (s : Columns) (file : FileRef) (d : Damage) : Type 0 where
  pub shown : IsAbsent told file d ⊎ IsMarred told s file d
  pub unsound : IsUnsound told s file

-- what is met of a wanted file
abbrev pub HasMet : {R : Type 0} → (R → Option (List ℕ)) → (R → ℕ) → Option Image → Wanted → Met R → Type 0
HasMet bytes faults told w (met.Input i) = IsOpened bytes faults told w i
HasMet bytes faults told w (met.Damaged d) = IsDamageOf told (wanted_columns w) w.file.now d
HasMet bytes faults told w met.Fault = ⊤
HasMet bytes faults told w met.Memory = ⊤

-- All of the wanted files were opened, in order; or those before the first that isn't the recorded one.
abbrev pub HaveOpened : {R : Type 0} → (R → Option (List ℕ)) → (R → ℕ) → Option Image → List Wanted → List (Input R) → Option Damage → Type 0
HaveOpened bytes faults told [] [] None = ⊤
HaveOpened bytes faults told [] [] (Some d) = ⊥
HaveOpened bytes faults told [] (i ∷ is) d = ⊥
HaveOpened bytes faults told (w ∷ ws) [] None = ⊥
HaveOpened bytes faults told (w ∷ ws) [] (Some d) = IsDamageOf told (wanted_columns w) w.file.now d
HaveOpened bytes faults told (w ∷ ws) (i ∷ is) d = IsOpened bytes faults told w i × HaveOpened bytes faults told ws is d
