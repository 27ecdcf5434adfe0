-- What a run over a store leaves.
use Rattle.std.specs.Prelude.{◌≡◌, ℕ, ◌+◌, ◌<◌, ◌≤◌, List, length, Option, None, Some, Bool, false, not}
use Rattle.std.specs.Io.KnownBytes.{Appends}
use Rattle.std.specs.List.{AllByRecursion}
use Rattle.mesa_io.specs.Causes.{last}
use Rattle.mesa_session.specs.mesa_history_laws.Alone.{AllTurnsStand, IsAlone, output_alone}
use Rattle.mesa_disk.specs.Image.{Image}
use Rattle.mesa_disk.specs.Story.{Story}
use Rattle.mesa_model.specs.declared.commands.Script.{Script}
use Rattle.mesa_model.specs.declared.entries.Entry.{Entry}
use Rattle.mesa_session.specs.mesa_history_spec.Counting.{count_in, is_disk_fault}
use Rattle.mesa_session.specs.mesa_history_spec.Found.{kept_of}
use Rattle.mesa_session.specs.mesa_history_spec.Legal.{IsLegal}
use Rattle.mesa_session.specs.mesa_history_spec.Run.{State, begins}
use Rattle.mesa_session.specs.mesa_history_laws.Printed.{AnswersFromTheFold}
use Rattle.mesa_session.specs.mesa_history_spec.Rows.{Rows}
use Rattle.mesa_session.specs.mesa_invariant_spec.Printing.{IsPrinted, IsPrintedButRows}
use Rattle.mesa_session.specs.mesa_invariant_spec.Undamaged.{NoneDamaged}
use Rattle.mesa_session.specs.mesa_invariant_spec.Invariant.{AllFound, HasCounted, Outset, run_at}
use Rattle.mesa_engine.specs.mesa_store_spec.Catalog.{Catalog}
use Rattle.mesa_engine.specs.mesa_store_spec.Sound.{StandsFor}
use Rattle.mesa_recover.specs.Opening.{ReadsAs, most_runs}
use Rattle.mesa_shell.specs.Ports.{Ports}
use Rattle.mesa_shell.specs.StoreStart.{IsSoundStore, start_of}
use Rattle.mesa_shell.specs.Counting.{HasBenchCounts}
use Rattle.mesa_shell.specs.declared.done.Devices.{Devices}
use Rattle.mesa_shell.specs.declared.done.Done.{Done}

-- a run from a state over a store: the disk's clock, both counts of its faults together, and what the sink had been given
abbrev pub outset_from : Script → State → ℕ → ℕ → Option (List ℕ) → Outset
outset_from script start since counted at_start = record { stands = StandsFor; script = script; start = start; since = since; counted = counted; at_start = at_start }

-- What holds of a run on any store: LEGAL; the clock didn't fall, and its moments lie between the clock at its start and at its end; no fault of the disk is answered twice; and the sink was given its entries' blocks, each in its order and as the entry tells it, but for the rows of a page and the fields of a damage, or where the sink failed a front of them. So its status goes by what was printed.
pub record RanAnyhow (script : Script) (start : State) (h : List Entry) (failed : Bool) (since counted : ℕ) (new : Story) (before now : Option (List ℕ)) : Type 0 where
  pub legal : IsLegal start script h failed
  pub clock : since ≤ new.moment
  pub moments : AllByRecursion (λ (e : Entry). (since ≤ e.moment) × (e.moment ≤ new.moment)) h
  pub counts : HasCounted counted new (count_in is_disk_fault script (begins start) h)
  pub printed : IsPrintedButRows script (begins start) h (not failed) before now

-- What holds of a run on a sound store, while the clock is below its last value: OUTPUT, of which a sink that failed got a front; CRASH; where nothing closed the warehouse, a read gives an image that is sound and stands for the state behind the last turn; and no entry met damage.
pub record RanSoundly (script : Script) (start : State) (h : List Entry) (failed : Bool) (since counted : ℕ) (new : Story) (before now : Option (List ℕ)) : Type 0 where
  pub output : IsPrinted script (begins start) h (not failed) before now
  pub crash : AllFound (outset_from script start since counted before) h new
  pub reads : (run_at script start h).state.warehouse.closed ≡ None → (i : Image) × (new.told ≡ Some i) × StandsFor i (kept_of (run_at script start h).state)
  pub undamaged : NoneDamaged h

module _ {K D M B : Type 0} (ports : Ports K D M B) (given : Devices K D B) (done : Done K D B) (script : Script) where
  -- A run over the catalogue that the disk reads, which isn't the last that may be. As many benches come back as were given. Whatever rows its files have: what holds on any store, and no fault of a bench is answered twice. Where the store is sound with these rows: ANSWERS, and what holds on a sound store; and ALONE: where one session alone has commands and every turn but a look stands, the sink was given the one text that a run without a fault prints.
  pub record Ran (c : Catalog) (failed : Bool) : Type 0 where
    pub reads : ReadsAs (ports.story given.disk) c
    pub number : c.run < most_runs
    pub returned : length done.benches.items ≡ length given.benches.items
    pub anyhow : (rows : Rows) → RanAnyhow script (start_of script c rows) done.history.items failed (ports.story given.disk).moment ((ports.story given.disk).faults + (ports.story given.disk).read_faults) (ports.story done.disk) (ports.held given.out) (ports.held done.out)
    pub benches : (rows : Rows) → HasBenchCounts ports.bench_faults (ports.story done.disk) script (begins (start_of script c rows)) done.history.items given.benches.items done.benches.items
    pub answers : (rows : Rows) → IsSoundStore ports.bytes (ports.story given.disk) c rows → AnswersFromTheFold script (start_of script c rows) done.history.items
    pub soundly : (rows : Rows) → IsSoundStore ports.bytes (ports.story given.disk) c rows → (ports.story done.disk).moment < last
        → RanSoundly script (start_of script c rows) done.history.items failed (ports.story given.disk).moment ((ports.story given.disk).faults + (ports.story given.disk).read_faults) (ports.story done.disk) (ports.held given.out) (ports.held done.out)
    pub alone : (rows : Rows) → IsSoundStore ports.bytes (ports.story given.disk) c rows → (ports.story done.disk).moment < last → failed ≡ false → IsAlone script → AllTurnsStand done.history.items
        → Appends (ports.held given.out) (ports.held done.out) (output_alone (start_of script c rows) script)
