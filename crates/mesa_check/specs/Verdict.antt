-- What a check answers of a store.
use Rattle.std.specs.Prelude.{◌≡◌, Option, Some, None}
use Rattle.mesa_disk.specs.Image.{Image}
use Rattle.mesa_disk.specs.Story.{Story}
use Rattle.mesa_store_spec.specs.Catalog.{Catalog}
use Rattle.mesa_store_spec.specs.Fitting.{live_files}
use Rattle.mesa_check.specs.Found.{AreFound, Found, HasSoundFiles}
use Rattle.mesa_check.specs.Faults.{Fault, first_fault}
use Rattle.mesa_check.specs.declared.verdict.Verdict.{Verdict}
use Rattle.mesa_check.specs.declared.verdict.Verdict.TheVariants as verdict

-- the fault that a verdict tells
abbrev pub fault_told : Verdict → Option Fault
fault_told verdict.Sound = None
fault_told (verdict.Unsound table from to key) = Some (record { table = table; from = from; to = to; key = key })

-- For a store that reads as a catalogue and whatever its disk reads, this is the first fault of what the files are found to have; and there is none exactly where they are sound.
pub record IsFirstFault (story : Story) (c : Catalog) (fault : Option Fault) : Type 0 where
  pub first : (i : Image) (found : Found) → story.told ≡ Some i → AreFound i found (live_files c) → first_fault found c ≡ fault
  pub sound : (i : Image) → story.told ≡ Some i → fault ≡ None → HasSoundFiles i c
  pub unsound : (i : Image) → story.told ≡ Some i → HasSoundFiles i c → fault ≡ None
