-- Recasts that have all ranges of their table.
use Rattle.std.specs.Prelude.{◌≡◌, ℕ, ◌+◌, ◌<◌, ◌≤◌, List, ◌++◌, Option, None}
use Rattle.std.specs.List.{AllByRecursion}
use Rattle.mesa_io.specs.Causes.{last}
use Rattle.mesa_work_turns.specs.mesa_pick_files.Ranges.{HoldsAll}
use Rattle.mesa_work_turns.specs.mesa_history_spec.Counting.{count_in, is_disk_fault}
use Rattle.mesa_work_turns.specs.mesa_history_spec.Run.{State, begins}
use Rattle.mesa_work_turns.specs.mesa_history_spec.Sources.{Written}
use Rattle.mesa_engine.specs.EngineState.{EngineState}
use Rattle.mesa_work_turns.specs.mesa_invariant_spec.Turns.{Faults, Shown}
use Rattle.mesa_model.specs.declared.commands.Script.{Script}
use Rattle.mesa_work_turns.specs.mesa_schema.Changes.{Lineage, columns_of, epoch_of}
use Rattle.mesa_work_turns.specs.mesa_history_spec.Rows.{Rows}
use Rattle.mesa_work_turns.specs.mesa_file_records.Grown.{HasBecome}
use Rattle.mesa_work_turns.specs.mesa_file_records.Recasts.{HasItsRange, meta_of_recast}
use Rattle.mesa_open_files.specs.Recasts.{AreRangesOf, IsRecastTask, recast_table}
use Rattle.mesa_open_files.specs.declared.recasting.Recast.{Recast}
use Rattle.mesa_open_files.specs.declared.recasting.RecastRange.{RecastRange}
use Rattle.mesa_work_turns.specs.mesa_copy.Copying.{AreRangesBounded, KnownRange, known_ranges}

-- ---- what a recast stays

-- A recast has further ranges behind those that it had, and else it is the one that it was; it may tell damage that was met with them.
pub record IsLonger {R : Type 0} (bytes : R → Option (List ℕ)) (old new : Recast R) : Type 0 where
  pub table : new.table ≡ old.table
  pub lease : new.lease ≡ old.lease
  pub epoch : new.epoch ≡ old.epoch
  pub evolving : new.evolving ≡ old.evolving
  pub keys : new.keys ≡ old.keys
  pub values : new.values ≡ old.values
  pub more : List KnownRange
  pub ranges : known_ranges bytes new.ranges.items ≡ known_ranges bytes old.ranges.items ++ more

-- ---- its further ranges

-- Further ranges may be opened for a recast: the vault is open, no damage was met, and its table has the epoch still in which it was granted.
pub record MayRest {R : Type 0} (l : EngineState) (t : Recast R) : Type 0 where
  pub opened : l.closed ≡ None
  pub whole : t.damage ≡ None
  pub epoch : epoch_of (meta_of_recast l t).lineage ≡ t.epoch

-- Further ranges of a table stand behind those that there were, each with a file of it. On a sound store no sum over one of them leaves its type, and each has all that was written in it.
pub record HasFurther {R : Type 0} (bytes : R → Option (List ℕ)) (l : Lineage) (sound : Rows → Type 0) (written : Rows → List Written) (old new : List (RecastRange R)) : Type 0 where
  pub more : List (RecastRange R)
  pub behind : new ≡ old ++ more
  pub of_table : AreRangesOf bytes l more
  pub bounded : (w : Rows) → sound w → AreRangesBounded bytes (columns_of l) more
  pub sourced : (w : Rows) → sound w → AllByRecursion (HasItsRange bytes l (written w)) more

-- ---- its table

-- The recast's table is there; it has become what it is since it was granted, and while its epoch is still the recast's, each of its ranges with rows is among the recast's, unless the vault has closed.
pub record HasRested {R : Type 0} (bytes : R → Option (List ℕ)) (l : EngineState) (t : Recast R) : Type 0 where
  pub task : IsRecastTask bytes t
  pub become : HasBecome (recast_table t) (meta_of_recast l t).lineage
  pub holds : l.closed ≡ None → epoch_of (meta_of_recast l t).lineage ≡ t.epoch → HoldsAll t.ranges.items (meta_of_recast l t)

-- ---- faults

-- A fault of the disk is unpaid: while neither the clock nor a count stands at its last value, both counts together rose by at least one more than entries answer faults, whatever rows the files had when the run began.
abbrev pub HasUnpaid : Script → (Rows → State) → ℕ → Shown → Faults → Type 0
HasUnpaid script start counted shown faults =
    (w : Rows) → shown.clock < last → faults.calls < last → faults.reads < last → counted + (count_in is_disk_fault script (begins (start w)) shown.history + 1) ≤ faults.calls + faults.reads
