-- Files that no record names.
use Rattle.std.specs.Prelude.{◌≡◌, ℕ, List, map, filter, not, Some}
use Rattle.std.specs.FinMap.{keys}
use Rattle.mesa_disk.specs.Image.{Image}
use Rattle.mesa_disk.specs.Story.{Story}
use Rattle.mesa_store_spec.specs.Catalog.{Catalog}
use Rattle.mesa_store_spec.specs.Fitting.{has_number}
use Rattle.mesa_catalog_table.specs.declared.recorded.Recorded.{Recorded}
use Rattle.mesa_catalog_table.specs.Files.{AreRecorded, recorded_id}

-- those of some ids that are among no others
abbrev pub unnamed_of : List ℕ → List ℕ → List ℕ
unnamed_of named ids = filter (λ id. not (has_number id named)) ids

-- Of the files that a read gives, those of which nothing is recorded.
pub record AreUnrecorded (story : Story) (files : List Recorded) (strays : List ℕ) : Type 0 where
  pub ids : List ℕ
  pub listed : (i : Image) → story.told ≡ Some i → ids ≡ keys i.files
  pub are : strays ≡ unnamed_of (map recorded_id files) ids

-- Of the files that a read gives, those that a catalogue doesn't name.
pub record AreStrays (story : Story) (c : Catalog) (strays : List ℕ) : Type 0 where
  pub files : List Recorded
  pub recorded : AreRecorded c files
  pub among : AreUnrecorded story files strays
