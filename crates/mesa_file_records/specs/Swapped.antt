-- What is told of a swap's record.
use Rattle.std.specs.Prelude.{◌≡◌, ℕ, ◌<◌, List, true, Option, None, Some}
use Rattle.mesa_columns.specs.declared.rows.Row.{Row}
use Rattle.mesa_pick_files.specs.mesa_schema.Changes.{Lineage}
use Rattle.mesa_disk.specs.Files.{HasDistinctIds, files_of}
use Rattle.mesa_engine.specs.mesa_commit.Turn.{made_ids, told_files}
use Rattle.mesa_record.specs.Rules.{keeps_rules}
use Rattle.mesa_record.specs.declared.record.Files.{Files}
use Rattle.mesa_record.specs.declared.record.Record.{Record}
use Rattle.mesa_record.specs.declared.record.Record.TheVariants as record_of
use Rattle.mesa_engine.specs.mesa_store_spec.Catalog.{Delta, TableMeta, merged_delta, meta_at}
use Rattle.mesa_engine.specs.mesa_store_spec.Contents.{Rows}
use Rattle.mesa_engine.specs.mesa_store_spec.Fitting.{brought, fits}
use Rattle.mesa_engine.specs.mesa_store_spec.Sound.{AreGrouped, wants}
use Rattle.mesa_engine.specs.mesa_store_spec.Brought.{AreTold}
use Rattle.mesa_engine.specs.mesa_store_spec.Ids.{brought_ids}
use Rattle.mesa_engine.specs.mesa_store_spec.Moves.{first_of, is_base, last_of}
use Rattle.mesa_engine.specs.mesa_store_spec.Sourced.{IsMergedOf}
use Rattle.mesa_engine.specs.mesa_history_spec.Sources.{Written}
use Rattle.mesa_open_files.specs.declared.made.MadeFiles.{MadeFiles}
use Rattle.mesa_open_files.specs.declared.merging.Task.{Task}
use Rattle.mesa_engine.specs.EngineState.{EngineState, next_id}
use Rattle.mesa_engine.specs.Recorded.{Adopts}
use Rattle.mesa_file_records.specs.Adopted.{files_under}
use Rattle.mesa_file_records.specs.Published.{AllTell, rows_with}
use Rattle.mesa_file_records.specs.declared.swapping.Swapped.{Swapped}
use Rattle.mesa_file_records.specs.Finished.{HasRange}

-- the record that swaps a task's range in, with these files
abbrev pub swap_of : {R : Type 0} → Task R → Option Files → Record
swap_of t files = record_of.Swap t.table (is_base t.work) (first_of t.work) (last_of t.work) t.epoch files

-- the references of a merged range's files, with ids from one on, if it has rows
abbrev pub files_under_if_any : {M : Type 0} → ℕ → Option (MadeFiles M) → Option Files
files_under_if_any id None = None
files_under_if_any id (Some made) = Some (files_under id made)

-- the delta of a task's range, with these files
abbrev pub delta_of : {R : Type 0} → Task R → Option Files → Delta
delta_of t files = merged_delta t.epoch files

-- the task's table
abbrev pub table_in : {R : Type 0} → EngineState → Task R → TableMeta
table_in l t = meta_at l.catalogue t.table

-- A task's range is swapped in by a record that keeps the rules of records and fits: its files have true references, are those that are made, each with its bytes where they are told, and get the next ids; and where the task has its range, they have the rows of the range and, for its views, these rows grouped.
pub record IsSwapped {M R : Type 0} (bytes : M → Option (List ℕ)) (read : R → Option (List ℕ)) (l : EngineState) (was : Lineage) (t : Task R) (s : Swapped M) : Type 0 where
  pub refs : Option Files
  pub entry : s.entry ≡ swap_of t refs
  pub rules : keeps_rules s.entry ≡ true
  pub fitting : fits l.catalogue s.entry ≡ true
  pub more : List (List Row)
  pub told : (rows : Rows) → AreTold (rows_with rows (next_id l) more) l.catalogue s.entry
  pub merged : (rows : Rows) (written : List Written) → HasRange read was t written → IsMergedOf (rows_with rows (next_id l) more) (table_in l t).lineage written (first_of t.work) (last_of t.work) (delta_of t refs)
  pub grouped : (rows : Rows) (written : List Written) → HasRange read was t written → AreGrouped (rows_with rows (next_id l) more) (table_in l t).lineage (delta_of t refs)
  pub agree : (rows : Rows) (id : ℕ) → id < next_id l → rows_with rows (next_id l) more id ≡ rows id
  pub files : (rows : Rows) → AllTell bytes s.made.items → files_of bytes s.made.items ≡ told_files (wants (rows_with rows (next_id l) more) (brought l.catalogue s.entry))
  pub ids : made_ids (files_of bytes s.made.items) ≡ brought_ids l.catalogue s.entry
  pub distinct : HasDistinctIds (files_of bytes s.made.items)
  pub adopts : Adopts l (files_of bytes s.made.items) s.adopted
