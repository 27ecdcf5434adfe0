-- A disk whose images all stand for one state, and a record that moves it to another.
use Rattle.std.specs.Prelude.{◌≡◌, ◌≢◌, ◌⊎◌, ℕ, List, Some, Ok, true}
use Rattle.std.specs.List.{AllByRecursion}
use Rattle.mesa_delta_format.specs.mesa_key.Spelling.{AreBytes}
use Rattle.mesa_commit.specs.mesa_disk.Image.{Image}
use Rattle.mesa_commit.specs.mesa_disk.Story.{Story}
use Rattle.mesa_commit.specs.mesa_disk.declared.area.Area.{Area}
use Rattle.mesa_commit.specs.Images.{Has, Stands}
use Rattle.mesa_record.specs.declared.record.Record.{Record}
use Rattle.mesa_record.specs.Reading.{record_at}
use Rattle.mesa_history_spec.specs.Found.{Kept}
use Rattle.mesa_store_spec.specs.Catalog.{Catalog, applied}
use Rattle.mesa_store_spec.specs.Fitting.{LiveFile, fits, live_files, brought}
use Rattle.mesa_store_spec.specs.Journaled.{catalog}
use Rattle.mesa_store_spec.specs.Contents.{Rows}
use Rattle.mesa_store_spec.specs.Sound.{wants, HaveSoundRows, StandsFor}

-- What a read gives, and each image that a crash now may leave, has these bodies, which make this catalogue, and its files with these rows, of which holds what is to hold of rows.
pub record IsHeld (story : Story) (live : Area) (bodies : List (List ℕ)) (end : ℕ) (c : Catalog) (rows : Rows) : Type 0 where
  pub bytes : AllByRecursion AreBytes bodies
  pub records : catalog live bodies ≡ Some c
  pub sound_rows : HaveSoundRows rows c
  pub stands : Stands story live bodies end (wants rows (live_files c))

-- A body spells a record that fits, after which what is to hold of rows does, and each file that is then named was named before or is brought.
pub record IsStep (rows : Rows) (c : Catalog) (r : Record) (body : List ℕ) : Type 0 where
  pub bytes : AreBytes body
  pub reads : record_at body ≡ Ok r
  pub fitting : fits c r ≡ true
  pub sound_rows : HaveSoundRows rows (applied c r)
  pub grows : (i : Image) → Has (wants rows (live_files c)) i → Has (wants rows (brought c r)) i → Has (wants rows (live_files (applied c r))) i

-- No file of this id is named.
abbrev pub IsUnnamed : Catalog → ℕ → Type 0
IsUnnamed c id = AllByRecursion (λ (x : LiveFile). x.file.id ≢ id) (live_files c)

-- An image stands for the one or for the other.
abbrev pub StandsForEither : Kept → Kept → Image → Type 0
StandsForEither old new image = StandsFor image old ⊎ StandsFor image new
