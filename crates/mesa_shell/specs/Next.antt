-- What a call leaves for the next one.
use Rattle.std.specs.Prelude.{◌≡◌, ◌<◌, ◌≤◌, ℕ, List, [], ◌++◌, Option, None, Some}
use Rattle.std.specs.List.{AllByRecursion}
use Rattle.mesa_io.specs.Causes.{last}
use Rattle.mesa_disk.specs.Image.{Image}
use Rattle.mesa_disk.specs.Story.{Story}
use Rattle.mesa_model.specs.declared.commands.Script.{Script}
use Rattle.mesa_model.specs.declared.entries.Entry.{Entry}
use Rattle.mesa_session.specs.mesa_history_spec.Found.{Kept}
use Rattle.mesa_parse.specs.declared.forms.Form.{Form}
use Rattle.mesa_session.specs.mesa_history_spec.Rows.{Rows}
use Rattle.mesa_session.specs.mesa_invariant_spec.Invariant.{run_at}
use Rattle.mesa_engine.specs.mesa_store_spec.Catalog.{Catalog}
use Rattle.mesa_engine.specs.mesa_store_spec.Contents.{kept_of}
use Rattle.mesa_engine.specs.mesa_store_spec.Sound.{StandsFor}
use Rattle.mesa_shell.specs.Ports.{Ports}
use Rattle.mesa_shell.specs.StoreStart.{AreTold, IsSoundStore, start_of}
use Rattle.mesa_shell.specs.Life.{kept_next}
use Rattle.mesa_shell.specs.Exit.{Ends}
use Rattle.mesa_shell.specs.Completing.{AsksFor}
use Rattle.mesa_shell.specs.declared.done.Devices.{Devices}
use Rattle.mesa_shell.specs.declared.done.Done.{Done}

-- A store is sound and keeps this: a run over it starts from there.
pub record IsSoundWith {M : Type 0} (bytes : M → Option (List ℕ)) (story : Story) (kept : Kept) : Type 0 where
  pub catalogue : Catalog
  pub rows : Rows
  pub sound : IsSoundStore bytes story catalogue rows
  pub same : kept_of rows catalogue ≡ kept

-- A disk that tells one image, and of which a crash leaves no other, has a sound store that keeps what the image stands for.
abbrev pub OpensSound : {M : Type 0} → (M → Option (List ℕ)) → Story → Type 0
OpensSound bytes story = (kept : Kept) (x : Image) → AreTold bytes → story.told ≡ Some x → ((y : Image) → story.may_leave y → y ≡ x) → StandsFor x kept → IsSoundWith bytes story kept

-- An image stands for what a store keeps after a front of a run's turns, which has every turn of moment at most t.
pub record HasFront (script : Script) (kept : Kept) (h : List Entry) (t : ℕ) (image : Image) : Type 0 where
  pub past : List Entry
  pub rest : List Entry
  pub split : h ≡ past ++ rest
  pub later : AllByRecursion (λ (e : Entry). t < e.moment) rest
  pub stands : StandsFor image (kept_next kept (record { script = script; turns = past }))

module _ {K D M B : Type 0} (ports : Ports K D M B) (given : Devices K D B) (done : Done K D B) where
  -- The disk's clock didn't fall in the call, and is below its last value.
  abbrev pub GoesOn : Type 0
  GoesOn = ((ports.story given.disk).moment ≤ (ports.story done.disk).moment) × ((ports.story done.disk).moment < last)

  -- It is below its last value, and didn't fall where no turn was taken; in a run that takes turns it doesn't fall.
  abbrev pub GoesOnAtRest : Type 0
  GoesOnAtRest = (done.history.items ≡ [] → (ports.story given.disk).moment ≤ (ports.story done.disk).moment) × ((ports.story done.disk).moment < last)

  -- A call leaves the store sound, and it keeps this.
  abbrev pub LeavesSound : Kept → Type 0
  LeavesSound kept = IsSoundWith ports.bytes (ports.story done.disk) kept

  -- A call that was asked for a run of a script over a sound store, while the clock is below its last value and doesn't fall where no turn is taken, leaves it sound unless a fault closed it; it keeps what it kept with all the turns.
  abbrev pub RunLeavesSound : Option Form → Option (List ℕ) → ℕ → ℕ → Type 0
  RunLeavesSound asked input before now =
      (script : Script) (c : Catalog) (rows : Rows) → AsksFor asked input script → Ends ports given done asked input before now → IsSoundStore ports.bytes (ports.story given.disk) c rows → GoesOnAtRest
      → (run_at script (start_of script c rows) done.history.items).state.warehouse.closed ≡ None → LeavesSound (kept_next (kept_of rows c) (record { script = script; turns = done.history.items }))

  -- And whatever moment a crash comes at, each image that it may have left has what the store kept with a front of the turns.
  abbrev pub CrashLeavesFront : Option Form → Option (List ℕ) → ℕ → ℕ → Type 0
  CrashLeavesFront asked input before now =
      (script : Script) (c : Catalog) (rows : Rows) → AsksFor asked input script → Ends ports given done asked input before now → IsSoundStore ports.bytes (ports.story given.disk) c rows → (ports.story done.disk).moment < last
      → (run_at script (start_of script c rows) done.history.items).state.warehouse.closed ≡ None
      → (t : ℕ) (x : Image) → (ports.story given.disk).moment ≤ t → t ≤ (ports.story done.disk).moment → (ports.story done.disk).may_have_left t x → HasFront script (kept_of rows c) done.history.items t x

  -- A call that took no turn over a sound store, while the clock goes on, leaves it sound, and it keeps what it kept.
  abbrev pub RestLeavesSound : Option Form → Option (List ℕ) → ℕ → ℕ → Type 0
  RestLeavesSound asked input before now =
      (c : Catalog) (rows : Rows) → Ends ports given done asked input before now → done.history.items ≡ [] → IsSoundStore ports.bytes (ports.story given.disk) c rows → GoesOn → LeavesSound (kept_of rows c)
