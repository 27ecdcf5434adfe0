-- Completeness: what a call comes to where nothing fails.
use Rattle.std.specs.Prelude.{◌≡◌, ◌⊎◌, ℕ, ◌≤◌, ◌<◌, List, length, None, Some, Ok, Option, Bool, true, false, slice_get}
use Rattle.std.specs.List.{AllByRecursion}
use Rattle.mesa_io.specs.Causes.{Rose, last}
use Rattle.mesa_disk.specs.Image.{Image}
use Rattle.mesa_disk.specs.Story.{Story}
use Rattle.mesa_disk.specs.declared.area.Area.{Area}
use Rattle.mesa_file.specs.declared.damage.Damage.{Damage}
use Rattle.mesa_file.specs.declared.damage.Seen.{Seen}
use Rattle.mesa_model.specs.declared.commands.Script.{Script}
use Rattle.mesa_model.specs.declared.entries.Entry.{Entry}
use Rattle.mesa_model.specs.declared.entries.Outcome.{Outcome}
use Rattle.mesa_model.specs.declared.entries.Outcome.TheVariants as outcome
use Rattle.mesa_script.specs.Generated.{generated}
use Rattle.mesa_script.specs.Script.{script_of}
use Rattle.mesa_parse.specs.declared.forms.Form.{Form}
use Rattle.mesa_parse.specs.declared.forms.Form.TheVariants as form
use Rattle.mesa_session.specs.mesa_history_spec.Rows.{Rows}
use Rattle.mesa_engine.specs.mesa_store_spec.Catalog.{Catalog}
use Rattle.mesa_recover.specs.Damages.{HasDamagedFile, HasMisfit, IsCutOff}
use Rattle.mesa_recover.specs.Opening.{most_runs}
use Rattle.mesa_shell.specs.Ports.{Ports}
use Rattle.mesa_shell.specs.ExitLines.{max_input, memory_status, refused_status}
use Rattle.mesa_shell.specs.StoreStart.{IsSoundStore}
use Rattle.mesa_shell.specs.declared.done.Devices.{Devices}
use Rattle.mesa_shell.specs.declared.done.Done.{Done}

-- whether a turn's reply is the reference warehouse's, or memory
abbrev pub is_quiet : Outcome → Bool
is_quiet outcome.Stands = true
is_quiet outcome.Memory = true
is_quiet o = false

-- each is
abbrev pub AllQuiet : List Entry → Type 0
AllQuiet h = AllByRecursion (λ (e : Entry). is_quiet e.outcome ≡ true) h

-- A bench's count of faults stays.
pub record IsUnfailed {B : Type 0} (faults : B → ℕ) (old new : List B) (session : ℕ) : Type 0 where
  pub before : B
  pub after : B
  pub was : slice_get old session ≡ Some before
  pub is : slice_get new session ≡ Some after
  pub still : Rose (faults before) (faults after) → ⊥

-- The input is a script within its limit.
pub record IsInput (input : Option (List ℕ)) (script : Script) : Type 0 where
  pub bytes : List ℕ
  pub known : input ≡ Some bytes
  pub short : length bytes ≤ max_input
  pub read : script_of bytes ≡ Ok script

-- words of this form ask for a run of the script: `run` of the input's, and `gen` of a seed's
abbrev pub AsksFor : Option Form → Option (List ℕ) → Script → Type 0
AsksFor None input script = ⊥
AsksFor (Some form.Run) input script = IsInput input script
AsksFor (Some form.Check) input script = ⊥
AsksFor (Some (form.Gen seed versions)) input script = script_of (generated seed versions) ≡ Ok script
AsksFor (Some (form.Digest name)) input script = ⊥

-- The store is sound, and may have a run more.
pub record HasRoomToRun {K D M B : Type 0} (ports : Ports K D M B) (given : Devices K D B) (c : Catalog) (rows : Rows) : Type 0 where
  pub sound : IsSoundStore ports.bytes (ports.story given.disk) c rows
  pub number : c.run < most_runs

-- No count of the source, the sink, the disk or a bench rose, and the clock didn't come to its last value.
pub record NothingFailed {K D M B : Type 0} (ports : Ports K D M B) (given : Devices K D B) (done : Done K D B) (source_before source_now : ℕ) : Type 0 where
  pub source : Rose source_before source_now → ⊥
  pub sink : Rose (ports.sink_faults given.out) (ports.sink_faults done.out) → ⊥
  pub disk : Rose (ports.story given.disk).faults (ports.story done.disk).faults → ⊥
  pub reads : Rose (ports.story given.disk).read_faults (ports.story done.disk).read_faults → ⊥
  pub benches : (session : ℕ) → session < 8 → IsUnfailed ports.bench_faults given.benches.items done.benches.items session
  pub clock : (ports.story done.disk).moment < last

-- The status is that of want of memory; or the script was run, and every entry stands or lacked memory.
abbrev pub Completes : {K D B : Type 0} → Done K D B → Type 0
Completes done = (done.status ≡ memory_status) ⊎ ((done.status ≤ refused_status) × AllQuiet done.history.items)

-- What a read of the store gives is told, and it isn't damaged: neither area of its journal is cut off, every record of the live one fits, and no file is damaged.
pub record IsUndamaged (story : Story) : Type 0 where
  pub image : Image
  pub told : story.told ≡ Some image
  pub whole : (area : Area) (at : ℕ) (want found : Seen) → IsCutOff image area at want found → ⊥
  pub fitting : (area : Area) (at : ℕ) (want found : Seen) → HasMisfit image area at want found → ⊥
  pub files : (d : Damage) → HasDamagedFile image d → ⊥

-- No count of the sink or the disk rose.
pub record NoneRose {K D M B : Type 0} (ports : Ports K D M B) (given : Devices K D B) (done : Done K D B) : Type 0 where
  pub sink : Rose (ports.sink_faults given.out) (ports.sink_faults done.out) → ⊥
  pub disk : Rose (ports.story given.disk).faults (ports.story done.disk).faults → ⊥
  pub reads : Rose (ports.story given.disk).read_faults (ports.story done.disk).read_faults → ⊥

-- The status is that of a verdict or of a name that was looked up, or of want of memory.
abbrev pub Decides : {K D B : Type 0} → Done K D B → Type 0
Decides done = (done.status ≤ refused_status) ⊎ (done.status ≡ memory_status)
