-- What a first fault says of a store.
use Rattle.std.specs.Prelude.{◌≡◌, IsTrue, None}
use Rattle.std.specs.List.{AllByRecursion}
use Rattle.mesa_disk.specs.Image.{Image}
use Rattle.mesa_pick_files.specs.mesa_commit.Images.{Has}
use Rattle.mesa_store_spec.specs.Catalog.{Catalog, TableMeta}
use Rattle.mesa_store_spec.specs.Fitting.{live_files}
use Rattle.mesa_store_spec.specs.Contents.{Rows}
use Rattle.mesa_store_spec.specs.Shape.{IsCatalog}
use Rattle.mesa_store_spec.specs.Sound.{HaveSoundRows, wants}
use Rattle.mesa_check.specs.Found.{AreFound, Found, HasSoundFiles, all_found}
use Rattle.mesa_check.specs.Faults.{first_fault}
use Rattle.mesa_check.specs.Ranges.{are_ordered, checked_ranges}

-- Where the files of a catalogue have sound rows, there is no first fault.
abbrev pub SoundHasNoFault : Type 0
SoundHasNoFault = (c : Catalog) (rows : Rows) → IsCatalog c → HaveSoundRows rows c → first_fault (all_found rows) c ≡ None

-- And where there is none, they have.
abbrev pub NoFaultIsSound : Type 0
NoFaultIsSound = (i : Image) (found : Found) (c : Catalog) → IsCatalog c → AreFound i found (live_files c) → first_fault found c ≡ None → HasSoundFiles i c

-- Files that are there with the rows of a sound store are found so.
abbrev pub SoundIsFound : Type 0
SoundIsFound = (i : Image) (c : Catalog) (rows : Rows) → Has (wants rows (live_files c)) i → HaveSoundRows rows c → AreFound i (all_found rows) (live_files c)

-- The ranges of a catalogue's tables are checked by their starts, and those of one start by their ends.
abbrev pub RangesAreOrdered : Type 0
RangesAreOrdered = (c : Catalog) → IsCatalog c → AllByRecursion (λ (t : TableMeta). IsTrue (are_ordered (checked_ranges t))) c.tables
