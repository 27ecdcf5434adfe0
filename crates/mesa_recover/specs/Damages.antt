-- What may be damaged in a store: its journal, a record, or a file that the records name.
use Rattle.std.specs.Prelude.{◌≡◌, ◌⊎◌, ℕ, List, [], ◌∷◌, ◌++◌, length, drop, Option, Some, None, Result, Ok, Err, if◌then◌else◌}
use Rattle.std.specs.List.{AllByRecursion}
use Rattle.sha2.specs.Sha256.{sha256}
use Rattle.mesa_store_spec.specs.mesa_file.declared.damage.Damage.{Damage}
use Rattle.mesa_store_spec.specs.mesa_file.declared.damage.Seen.{Seen}
use Rattle.mesa_store_spec.specs.mesa_file.declared.damage.Seen.TheVariants as seen
use Rattle.mesa_disk.specs.Image.{Image, area_of, file_of}
use Rattle.mesa_disk.specs.declared.area.Area.{Area}
use Rattle.mesa_disk.specs.declared.area.Area.TheVariants.{Zero, One}
use Rattle.mesa_journal.specs.Journal.{frames}
use Rattle.mesa_journal.specs.Areas.{HasJournal, IsDamagedIn}
use Rattle.mesa_record.specs.declared.record.Record.{Record}
use Rattle.mesa_store_spec.specs.mesa_record_fields.declared.error.RecordError.{RecordError}
use Rattle.mesa_store_spec.specs.mesa_record_fields.declared.error.RecordError.TheVariants as fault
use Rattle.mesa_record.specs.Reading.{record_at}
use Rattle.mesa_delta.specs.Damages.{IsWrongLength, IsWrongDigest}
use Rattle.mesa_store_spec.specs.Catalog.{Catalog}
use Rattle.mesa_store_spec.specs.Fitting.{fits}
use Rattle.mesa_store_spec.specs.Journaled.{catalog, first_body}
use Rattle.mesa_catalog_table.specs.declared.recorded.Recorded.{Recorded}
use Rattle.mesa_catalog_table.specs.Files.{AreRecorded}

-- ---- files

-- A file is there with its recorded length, and its tail has the recorded digest.
pub record IsAsRecorded (image : Image) (r : Recorded) : Type 0 where
  pub bytes : List ℕ
  pub there : file_of image r.id ≡ Some bytes
  pub whole : length bytes ≡ r.len
  pub tail : sha256 (drop r.tail bytes) ≡ r.digest

-- Damage of a file: it is absent, or it has another length, or its tail has another digest.
abbrev pub IsFileDamage : Option (List ℕ) → Recorded → Damage → Type 0
IsFileDamage None r d = d ≡ record { file = r.id; place = 0; want = seen.Length r.len; found = seen.Absent }
IsFileDamage (Some bytes) r d = IsWrongLength r.id r.len (length bytes) d ⊎ ((length bytes ≡ r.len) × IsWrongDigest r.id r.tail r.digest (drop r.tail bytes) d)

-- The first of these files that isn't as it is recorded is damaged so.
pub record IsFirstDamage (image : Image) (files : List Recorded) (d : Damage) : Type 0 where
  pub before : List Recorded
  pub file : Recorded
  pub behind : List Recorded
  pub split : files ≡ before ++ file ∷ behind
  pub good : AllByRecursion (IsAsRecorded image) before
  pub damaged : IsFileDamage (file_of image file.id) file d

-- ---- records

-- the place at which a body leaves the grammar of records
abbrev pub fault_place : RecordError → ℕ
fault_place (fault.Truncated at) = at
fault_place (fault.BadKind at) = at
fault_place (fault.BadField at) = at
fault_place (fault.Trailing at) = at
fault_place fault.Memory = 0

-- The first wrong offset of a body, 0 where it spells a record that doesn't fit; none where its record fits.
abbrev pub misfit_of : Catalog → Result Record RecordError → Option ℕ
misfit_of c (Ok r) = if fits c r then None else Some 0
misfit_of c (Err e) = Some (fault_place e)

-- the first wrong offset of a body that makes no catalogue, 0 where it spells a record
abbrev pub first_place : Result Record RecordError → ℕ
first_place (Ok r) = 0
first_place (Err e) = fault_place e

abbrev pub place_if_none : Option Catalog → ℕ → Option ℕ
place_if_none (Some c) place = None
place_if_none None place = Some place

-- The first wrong offset of a body that is the first of an area; none where it makes a catalogue.
abbrev pub first_misfit_of : Area → List ℕ → Option ℕ
first_misfit_of area body = place_if_none (first_body area body) (first_place (record_at body))

-- A body misfits behind these, at this offset of its own.
abbrev pub MisfitsBehind : Area → List (List ℕ) → List ℕ → ℕ → Type 0
MisfitsBehind area [] body offset = first_misfit_of area body ≡ Some offset
MisfitsBehind area (first ∷ before) body offset = (c : Catalog) × (catalog area (first ∷ before) ≡ Some c) × (misfit_of c (record_at body) ≡ Some offset)

-- The first of an area's bodies that doesn't fit what stands before it has its gate at a place, and this first wrong offset.
pub record IsFirstMisfit (area : Area) (bodies : List (List ℕ)) (at offset : ℕ) : Type 0 where
  pub before : List (List ℕ)
  pub body : List ℕ
  pub behind : List (List ℕ)
  pub split : bodies ≡ before ++ body ∷ behind
  pub place : at ≡ length (frames before)
  pub misfits : MisfitsBehind area before body offset

-- ---- the journal

-- the number by which an area is told
abbrev pub code_of : Area → ℕ
code_of Zero = 0
code_of One = 1

-- An area ends before the record of an open gate does, area 0 first.
abbrev pub IsCutOff : Image → Area → ℕ → Seen → Seen → Type 0
IsCutOff image area at want found = (needed : ℕ) × IsDamagedIn area at needed image × (want ≡ seen.Length needed) × (found ≡ seen.Length (length (area_of area image)))

-- Both areas are whole, and a record of the live one misfits.
abbrev pub HasMisfit : Image → Area → ℕ → Seen → Seen → Type 0
HasMisfit image area at want found = (bodies : List (List ℕ)) × (end : ℕ) × (offset : ℕ) × HasJournal image area bodies end × IsFirstMisfit area bodies at offset × (want ≡ seen.Fits) × (found ≡ seen.Misfit offset)

-- An image's journal makes a catalogue, and of the files that it names, by rising ids, the first that isn't as recorded is damaged so.
pub record HasDamagedFile (image : Image) (d : Damage) : Type 0 where
  pub bodies : List (List ℕ)
  pub end : ℕ
  pub catalogue : Catalog
  pub files : List Recorded
  pub live : Area
  pub journal : HasJournal image live bodies end
  pub records : catalog live bodies ≡ Some catalogue
  pub recorded : AreRecorded catalogue files
  pub first : IsFirstDamage image files d
