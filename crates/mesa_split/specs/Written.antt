-- Rows that are written and grouped at once.
use Rattle.std.specs.Prelude.{◌≡◌, ℕ, List, ◌++◌, map, IsTrue, IfErr, OnOk, Option, Result}
use Rattle.mesa_file.specs.declared.damage.Damage.{Damage}
use Rattle.mesa_compact.specs.mesa_columns.declared.rows.Row.{Row}
use Rattle.mesa_compact.specs.mesa_columns.Rows.{keys_rise}
use Rattle.mesa_delta.specs.Writing.{HasTaken, columns_of, draft_of, id_of}
use Rattle.mesa_delta.specs.declared.writer.DeltaWriter.{DeltaWriter}
use Rattle.mesa_answer.specs.Answering.{KeepsSums}
use Rattle.mesa_answer.specs.declared.groups.Groups.{Groups}
use Rattle.mesa_merge.specs.Sums.{sum_damage}
use Rattle.mesa_open_files.specs.declared.merging.CompactError.{CompactError}
use Rattle.mesa_compact.specs.Damaged.{LeavesAmong, RowLeaves}
use Rattle.mesa_answer.specs.Gathered.{wanted_of}
use Rattle.mesa_compact.specs.Grouping.{HavePut}
use Rattle.mesa_compact.specs.Writing.{HasCauses, damaged_by}

-- A writer has taken just these rows, and just these were put into the groups.
pub record HasPoured {M T : Type 0} (bytes : T → Option (List ℕ)) (w : DeltaWriter M T) (groups : List Groups) (rows : List Row) : Type 0 where
  pub taken : HasTaken bytes w rows
  pub put : HavePut groups rows

-- What came of giving a writer more rows, and putting them into the groups: behind whatever it had, if the keys of all rise.
pub record HasWritten {M T U : Type 0} (bytes : T → Option (List ℕ)) (drawn faults : T → ℕ) (newest : ℕ) (rows : List Row) (old : DeltaWriter M T) (before : List Groups) (new : DeltaWriter M T) (now : List Groups) (answer : Result U CompactError) : Type 0 where
  pub poured : OnOk answer ((given : List Row) → HasPoured bytes old before given → IsTrue (keys_rise (given ++ rows)) → HasPoured bytes new now (given ++ rows))
  pub columns : columns_of new ≡ columns_of old
  pub id : id_of new ≡ id_of old
  pub draft : drawn (draft_of new) ≡ drawn (draft_of old)
  pub wanted : map wanted_of now ≡ map wanted_of before
  -- A total over all rows so far that leaves its type is told of the newest file.
  pub causes : (reads : List ℕ) → HasCauses (faults (draft_of old)) (faults (draft_of new)) reads reads
      (λ d. (d ≡ sum_damage newest) × ((given : List Row) → HasPoured bytes old before given → IsTrue (keys_rise (given ++ rows)) → LeavesAmong (RowLeaves (columns_of old)) (given ++ rows))) answer
  pub accepts : IfErr answer (λ e. (d : Damage) → e ≡ damaged_by d → (given : List Row) → HasPoured bytes old before given → IsTrue (keys_rise (given ++ rows)) → KeepsSums (columns_of old) (given ++ rows) → ⊥)
