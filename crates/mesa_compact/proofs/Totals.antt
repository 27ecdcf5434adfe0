-- Totals that leave their type, and the newest file that holds the key.
use Rattle.std.proofs.Common.{◌≡◌, ℕ, List, [], ◌∷◌, ◌++◌}
use Rattle.std.specs.Prelude.{Option, Some, slice_get}
use Rattle.mesa_file.specs.declared.damage.Damage.{Damage}
use Rattle.mesa_open_files.specs.mesa_columns.declared.rows.Row.{Row}
use Rattle.mesa_open_files.specs.mesa_columns.Columns.{Columns, aggs_of}
use Rattle.mesa_open_files.specs.mesa_fold.Folded.{folded}
use Rattle.mesa_answer.specs.Answering.{KeepsSums}
use Rattle.mesa_merge.specs.Inputs.{Known, knowns_of}
use Rattle.mesa_merge.specs.Merged.{HasMerged, inputs_of, last_in}
use Rattle.mesa_merge.specs.Sums.{IsLastOf, sum_damage}
use Rattle.mesa_merge.specs.declared.merge.Merge.{Merge}
use Rattle.mesa_merge.proofs.Lasting.{newest_given}
use Rattle.mesa_compact.specs.Damaged.{IsTotalOf, RowLeaves}

-- the total that leaves its type with the row that was given last
pub total_of : {R : Type 0} (bytes : R → Option (List ℕ)) (s : Columns) (m : Merge R) (givens : List (List Row)) (front : List Row) (row : Row) (file : Known) (d : Damage)
    → HasMerged bytes s m givens → folded (aggs_of s) givens ≡ front ++ row ∷ [] → IsLastOf row.key (last_in m) givens → RowLeaves s front row → (KeepsSums s (front ++ row ∷ []) → ⊥) → slice_get (knowns_of bytes (inputs_of m)) (last_in m) ≡ Some file → d ≡ sum_damage file.file.file
    → IsTotalOf bytes (inputs_of m) d
total_of bytes s m givens front row file d h fold last really leaves one told = record {
  columns = s;
  alike = h.alike;
  givens = givens;
  front = front;
  row = row;
  fold = fold;
  really = really;
  leaves = leaves;
  file = file;
  newest = newest_given bytes s m givens row.key (last_in m) file h last one;
  told = told;
}
