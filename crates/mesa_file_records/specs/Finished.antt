-- Finished merges of tasks.
use Rattle.std.specs.Prelude.{◌≡◌, ℕ, ◌≤◌, List, Option}
use Rattle.std.specs.List.{AllByRecursion}
use Rattle.mesa_columns.specs.declared.rows.Row.{Row}
use Rattle.mesa_pick_files.specs.mesa_schema.Changes.{Lineage, columns_of}
use Rattle.mesa_engine.specs.mesa_history_spec.Sources.{Source, Written, range_rows, sources_from}
use Rattle.mesa_engine.specs.mesa_store_spec.Moves.{first_of, last_of}
use Rattle.mesa_open_files.specs.Inputs.{IsMergeOf}
use Rattle.mesa_open_files.specs.Tasks.{IsMerged, IsTask}
use Rattle.mesa_open_files.specs.declared.merging.NewDelta.{NewDelta}
use Rattle.mesa_open_files.specs.declared.merging.Task.{Task}
use Rattle.mesa_file_records.specs.Grown.{HasGrown}

-- A task is merged: its table had these columns and views when it was granted, and has become what it is now; the files have the merge of the task's inputs.
pub record IsFinished {M R : Type 0} (bytes : M → Option (List ℕ)) (id_of : M → ℕ) (read : R → Option (List ℕ)) (was now : Lineage) (t : Task R) (d : NewDelta M) : Type 0 where
  pub grown : HasGrown was now
  pub task : IsTask read was t
  pub merged : IsMerged bytes id_of read was t d

-- what was written of the table in a task's range
abbrev pub sources_in : {R : Type 0} → Task R → List Written → List Source
sources_in t written = sources_from (first_of t.work) (last_of t.work) written

-- A task has its range: all that was written in it is of the task's epoch or an earlier one, and its inputs merge to nothing but the rows to which that folds.
pub record HasRange {R : Type 0} (read : R → Option (List ℕ)) (was : Lineage) (t : Task R) (written : List Written) : Type 0 where
  pub epochs : AllByRecursion (λ (s : Source). s.epoch ≤ t.epoch) (sources_in t written)
  pub rows : (rows : List Row) → IsMergeOf read (columns_of was) t.inputs.items rows → rows ≡ range_rows was t.epoch (sources_in t written)
