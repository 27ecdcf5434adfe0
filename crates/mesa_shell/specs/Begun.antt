-- A store on which a run has begun.
use Rattle.std.specs.Prelude.{◌≡◌, ℕ, ◌+◌, ◌<◌, ◌≤◌, ◌^◌, List, [], None, Option, Some}
use Rattle.mesa_io.specs.Causes.{last}
use Rattle.mesa_disk.specs.Image.{Image}
use Rattle.mesa_disk.specs.Story.{Story}
use Rattle.mesa_disk.specs.declared.area.Area.{Area}
use Rattle.mesa_engine.specs.mesa_commit.Filed.{FilesAdopted}
use Rattle.mesa_session.specs.mesa_history_spec.Rows.{Rows}
use Rattle.mesa_engine.specs.mesa_store_spec.Catalog.{Catalog, applied}
use Rattle.mesa_engine.specs.mesa_store_spec.Contents.{kept_of}
use Rattle.mesa_engine.specs.mesa_store_spec.Shape.{IsCatalog}
use Rattle.mesa_engine.specs.mesa_store_spec.Sound.{StandsFor}
use Rattle.mesa_engine.specs.mesa_store_spec.Countable.{AreCounted}
use Rattle.mesa_engine.specs.mesa_store_spec.Ids.{HasOwnIds, named}
use Rattle.mesa_engine.specs.mesa_store_spec.Recordable.{AreRecordable}
use Rattle.mesa_recover.specs.Opening.{IsHeldAs, IsSoundStart, Keeps, ReadsAs, first_id, most_runs, run_record}
use Rattle.mesa_engine.specs.Vault.{IsRead}
use Rattle.mesa_engine.specs.mesa_catalog.declared.begun.Begun.{Begun}
use Rattle.mesa_shell.specs.StoreStart.{AreTold}

-- What holds on any store on which a run has begun: its catalogue is that of the run, and has the shape and the ids of one, and what its files are to keep; the area in which the journal goes on has room for a body behind its end; the files that are there are those that the catalogue names, and none has an id that the run may give; and the clock isn't before the run's start.
pub record IsReadyToRun {D : Type 0} (story : D → Story) (b : Begun D) : Type 0 where
  pub run : b.catalog.catalogue.run ≡ b.run
  pub few : b.run < 2 ^ 24
  pub free : b.catalog.reserved ≡ None
  pub shaped : IsCatalog b.catalog.catalogue
  pub own : HasOwnIds b.catalog.catalogue
  pub columns : AreCounted b.catalog.catalogue
  pub recordable : AreRecordable b.catalog.catalogue
  pub long : b.end < (story b.disk).len b.area
  pub filed : FilesAdopted 0 (first_id b.run) (first_id (b.run + 1)) (named b.catalog.catalogue) [] [] (story b.disk).told
  pub since : b.since ≤ (story b.disk).moment

-- What holds where it was sound, with these rows: finished files tell their bytes; the disk holds the catalogue with them, and a read gives an image; and each image that a crash since the run's start may have left stands for that.
pub record IsSoundBegun {M : Type 0} (bytes : M → Option (List ℕ)) (since : ℕ) (story : Story) (area : Area) (end : ℕ) (c : Catalog) (rows : Rows) : Type 0 where
  pub files : AreTold bytes
  pub held : IsHeldAs story area end c rows
  pub read : IsRead story
  pub found : story.moment < last → (t : ℕ) (x : Image) → since ≤ t → t ≤ story.moment → story.may_have_left t x → StandsFor x (kept_of rows c)

-- What an opening made of a store: it reads as a catalogue, whose last run isn't the last that may be; the run is the next one, and its record is applied; it is ready to run, and what it had it keeps; where it was sound the disk holds it, and a read gives an image where it gave one; the clock is known from the call's start, and no count of faults rose.
pub record HasBegun {D : Type 0} (story : D → Story) (old : Story) (b : Begun D) : Type 0 where
  pub catalogue : Catalog
  pub reads : ReadsAs old catalogue
  pub number : catalogue.run < most_runs
  pub applies : b.catalog.catalogue ≡ applied catalogue (run_record b.run)
  pub ready : IsReadyToRun story b
  pub keeps : Keeps old (story b.disk)
  pub held : (rows : Rows) → IsSoundStart old catalogue rows → IsHeldAs (story b.disk) b.area b.end b.catalog.catalogue rows
  pub told : (i : Image) → old.told ≡ Some i → IsRead (story b.disk)
  pub since : b.since ≡ old.moment
  pub faults : (story b.disk).faults ≡ old.faults
  pub read_faults : (story b.disk).read_faults ≡ old.read_faults
