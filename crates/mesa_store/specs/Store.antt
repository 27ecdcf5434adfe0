-- A disk on which a store was found, and a record that is written to one.
use Rattle.std.specs.Prelude.{◌≡◌, ℕ, ◌+◌, List, [], ◌∷◌, length, Option, None, Some, ⊤}
use Rattle.std.specs.List.{AllByRecursion}
use Rattle.mesa_store_spec.specs.mesa_key.Spelling.{AreBytes}
use Rattle.mesa_disk.specs.Image.{Image}
use Rattle.mesa_disk.specs.Story.{Story}
use Rattle.mesa_disk.specs.declared.area.Area.{Area}
use Rattle.mesa_journal.specs.Areas.{HasJournal, Leads, other_of}
use Rattle.mesa_commit.specs.Images.{Has}
use Rattle.mesa_commit.specs.Turn.{told_files}
use Rattle.mesa_store_spec.specs.mesa_record.declared.record.Record.{Record}
use Rattle.mesa_store_spec.specs.Catalog.{Catalog, applied}
use Rattle.mesa_store_spec.specs.Fitting.{brought, live_files}
use Rattle.mesa_store_spec.specs.Journaled.{catalog}
use Rattle.mesa_store_spec.specs.Contents.{Rows, kept_of}
use Rattle.mesa_store_spec.specs.Sound.{wants, HaveSoundRows, StandsFor}
use Rattle.mesa_store_spec.specs.Held.{IsHeld, IsStep, IsUnnamed}

-- What a read gives is sound, with these bodies, this catalogue and these rows, and each image that a crash may leave stands for the same.
pub record IsFound (story : Story) (live : Area) (bodies : List (List ℕ)) (end : ℕ) (c : Catalog) (rows : Rows) : Type 0 where
  pub bytes : AllByRecursion AreBytes bodies
  pub records : catalog live bodies ≡ Some c
  pub sound_rows : HaveSoundRows rows c
  pub journal : (i : Image) → story.told ≡ Some i → HasJournal i live bodies end
  pub files : (i : Image) → story.told ≡ Some i → Has (wants rows (live_files c)) i
  pub left : (x : Image) → story.may_leave x → StandsFor x (kept_of rows c)

-- A record is to be written: the disk holds a catalogue, which the record fits, the files that are made are those that it brings, and none that is dropped is named after it.
pub record Writes (story : Story) (live : Area) (bodies : List (List ℕ)) (end : ℕ) (c : Catalog) (rows : Rows) (r : Record) (body : List ℕ) (made : List (ℕ × Option (List ℕ))) (dropped : List ℕ) : Type 0 where
  pub held : IsHeld story live bodies end c rows
  pub step : IsStep rows c r body
  pub brings : made ≡ told_files (wants rows (brought c r))
  pub unnamed : AllByRecursion (IsUnnamed (applied c r)) dropped

-- A checkpoint is to be written: the disk holds a catalogue, and a read gives all that a crash leaves; the body states this catalogue as the first of the other area, with a greater number.
pub record Restates (story : Story) (live : Area) (bodies : List (List ℕ)) (end : ℕ) (c : Catalog) (rows : Rows) (body : List ℕ) : Type 0 where
  pub held : IsHeld story live bodies end c rows
  pub alone : (x : Image) → story.may_leave x → story.told ≡ Some x
  pub bytes : AreBytes body
  pub states : catalog (other_of live) (body ∷ []) ≡ Some c
  pub leads : Leads (other_of live) (body ∷ []) bodies

-- A checkpoint, where there is one, states this catalogue as the first body of the other area, with a number that is greater than that of these bodies.
pub record States (live : Area) (bodies : List (List ℕ)) (c : Catalog) (body : List ℕ) : Type 0 where
  pub bytes : AreBytes body
  pub states : catalog (other_of live) (body ∷ []) ≡ Some c
  pub leads : Leads (other_of live) (body ∷ []) bodies

abbrev pub StatesIfAny : Area → List (List ℕ) → Catalog → Option (List ℕ) → Type 0
StatesIfAny live bodies c None = ⊤
StatesIfAny live bodies c (Some body) = States live bodies c body

-- the area in which a store goes on: the other one where a checkpoint is written
abbrev pub area_after : Area → Option (List ℕ) → Area
area_after live None = live
area_after live (Some body) = other_of live

-- where its journal then ends
abbrev pub end_after : ℕ → Option (List ℕ) → ℕ
end_after end None = end
end_after end (Some body) = length body + 5

abbrev pub bodies_after : List (List ℕ) → Option (List ℕ) → List (List ℕ)
bodies_after bodies None = bodies
bodies_after bodies (Some body) = body ∷ []
