-- What an opening finds of a store, why it may end, and what it leaves.
use Rattle.std.specs.Prelude.{◌≡◌, ◌≢◌, ◌⊎◌, ℕ, ◌-◌, ◌*◌, ◌^◌, ◌<◌, ◌≤◌, List, map, Bool, Some, Ok, true, ⊤}
use Rattle.std.specs.List.{AllByRecursion}
use Rattle.mesa_store.specs.mesa_io.Causes.{last, Rose}
use Rattle.mesa_store.specs.mesa_key.Spelling.{AreBytes}
use Rattle.mesa_disk.specs.Image.{Image, area_of}
use Rattle.mesa_disk.specs.Story.{Story}
use Rattle.mesa_disk.specs.declared.area.Area.{Area}
use Rattle.mesa_journal.specs.Areas.{HasJournal, holds_body, number_of, other_of}
use Rattle.mesa_store_spec.specs.Catalog.{Catalog}
use Rattle.mesa_record.specs.Reading.{record_at}
use Rattle.mesa_store_spec.specs.Fitting.{fits, live_files}
use Rattle.mesa_store_spec.specs.Journaled.{catalog}
use Rattle.mesa_store_spec.specs.Contents.{Rows, kept_of}
use Rattle.mesa_record.specs.declared.record.Record.{Record}
use Rattle.mesa_record.specs.declared.record.Record.TheVariants as record_of
use Rattle.mesa_store_spec.specs.Sound.{IsSoundAs, StandsFor}
use Rattle.mesa_store_spec.specs.Held.{IsHeld, IsUnnamed}
use Rattle.mesa_catalog_table.specs.Files.{recorded_of}
use Rattle.mesa_recover.specs.declared.error.OpenError.{OpenError}
use Rattle.mesa_recover.specs.declared.error.OpenError.TheVariants as open_error
use Rattle.mesa_recover.specs.Damages.{IsAsRecorded, IsCutOff, code_of, HasMisfit, HasDamagedFile}

-- What is read of a store: the bodies of its live area, whose records make a catalogue; they are the journal that a read gives, up to this end, and the files that they name are as they are recorded. A live area of more than one byte has a gate at the end.
pub record IsRead (story : Story) (live : Area) (bodies : List (List ℕ)) (end : ℕ) (c : Catalog) : Type 0 where
  pub bytes : AllByRecursion AreBytes bodies
  pub records : catalog live bodies ≡ Some c
  pub journal : (i : Image) → story.told ≡ Some i → HasJournal i live bodies end
  pub files : (i : Image) → story.told ≡ Some i → AllByRecursion (IsAsRecorded i) (map recorded_of (live_files c))
  pub gate : 1 < story.len live → end < story.len live
  pub none : story.len live ≤ 1 → end ≡ 0

-- A store reads as a catalogue.
abbrev pub ReadsAs : Story → Catalog → Type 0
ReadsAs story c = (live : Area) × (bodies : List (List ℕ)) × (end : ℕ) × IsRead story live bodies end c

-- What an opened store says of itself is what is read of it: the live area with its number and its end, and whether the other one holds a body; and its disk's clock stands as it did at the call of read.
pub record IsOpenedAs (story : Story) (c : Catalog) (last_run : ℕ) (area : Area) (number : ℕ) (holds : Bool) (end since : ℕ) : Type 0 where
  pub bodies : List (List ℕ)
  pub reads : IsRead story area bodies end c
  pub run : last_run ≡ c.run
  pub numbered : number ≡ number_of bodies
  pub other : (i : Image) → story.told ≡ Some i → holds ≡ holds_body (area_of (other_of area) i)
  pub now : since ≡ story.moment

-- the number of the last run that there may be
abbrev pub most_runs : ℕ
most_runs = 2 ^ 24 - 1

-- Why an opening ended: a count of the disk's faults rose; the journal is cut off or a record in it misfits; a file is damaged; the last run that may be was; or want of memory. What is found of a journal or a file isn't what is wanted, also where a disk doesn't tell what it holds.
abbrev pub HasReason : Story → Story → OpenError → Type 0
HasReason old new open_error.Fault = Rose old.faults new.faults ⊎ Rose old.read_faults new.read_faults
HasReason old new (open_error.Journal number at want found) = (area : Area) × (number ≡ code_of area) × ((i : Image) → old.told ≡ Some i → IsCutOff i area at want found ⊎ HasMisfit i area at want found) × (want ≢ found)
HasReason old new (open_error.File d) = ((i : Image) → old.told ≡ Some i → HasDamagedFile i d) × (d.want ≢ d.found)
HasReason old new open_error.RunsFull = (c : Catalog) × ReadsAs old c × (c.run ≡ most_runs)
HasReason old new open_error.Memory = ⊤

-- A run starts from a sound store: what a read gives is sound, with this catalogue and these rows, and each image that a crash may leave stands for the same.
pub record IsSoundStart (story : Story) (c : Catalog) (rows : Rows) : Type 0 where
  pub image : Image
  pub told : story.told ≡ Some image
  pub bodies : List (List ℕ)
  pub sound : IsSoundAs image bodies c rows
  pub left : (x : Image) → story.may_leave x → StandsFor x (kept_of rows c)

-- From a sound start each image that a crash since then may have left stands for the same, while the clock is below its last value.
abbrev pub Keeps : Story → Story → Type 0
Keeps old new = (c : Catalog) (rows : Rows) → IsSoundStart old c rows → new.moment < last → (t : ℕ) (x : Image) → old.moment ≤ t → t ≤ new.moment → new.may_have_left t x → StandsFor x (kept_of rows c)

-- ---- a run that begins

-- the record of a run
abbrev pub run_record : ℕ → Record
run_record number = record_of.Run number

-- the first id that a run may give to a file that it adopts
abbrev pub first_id : ℕ → ℕ
first_id run = run * 2 ^ 40

-- A disk holds a store with this catalogue and these rows, whose journal ends there.
abbrev pub IsHeldAs : Story → Area → ℕ → Catalog → Rows → Type 0
IsHeldAs story area end c rows = (bodies : List (List ℕ)) × IsHeld story area bodies end c rows

-- A body is the record of a run of this number, which fits a catalogue, and no stray is named.
pub record BeginsRun (c : Catalog) (number : ℕ) (body : List ℕ) (strays : List ℕ) : Type 0 where
  pub bytes : AreBytes body
  pub reads : record_at body ≡ Ok (run_record number)
  pub fitting : fits c (run_record number) ≡ true
  pub unnamed : AllByRecursion (IsUnnamed c) strays
