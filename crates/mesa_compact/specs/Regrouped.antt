-- What damage is told where merged rows are grouped by other columns.
use Rattle.std.specs.Prelude.{◌≡◌, ◌⊎◌, ℕ, ◌≤◌, List, Option, Some, slice_get}
use Rattle.mesa_file.specs.declared.damage.Damage.{Damage}
use Rattle.mesa_open_files.specs.mesa_value.declared.Agg.TheVariants.{Sum}
use Rattle.mesa_open_files.specs.mesa_columns.declared.rows.Row.{Row}
use Rattle.mesa_open_files.specs.mesa_columns.Columns.{Columns, aggs_of}
use Rattle.mesa_open_files.specs.mesa_fold.Folded.{folded, grouped}
use Rattle.mesa_batch.specs.Totals.{abs_total, sum_bound}
use Rattle.mesa_delta.specs.declared.input.Input.{Input}
use Rattle.mesa_answer.specs.Answering.{grouped_columns}
use Rattle.mesa_merge.specs.Inputs.{AreTold, Known, knowns_of, lifted_parts}
use Rattle.mesa_merge.specs.Sums.{sum_damage}
use Rattle.mesa_compact.specs.Damaged.{IsMergeDamage, IsNewestOf, LeavesAmong, TotalLeaves}

-- The absolute values of a sum column of these rows add up to more than 2^127 - 1.
pub record PassesBound (s : Columns) (rows : List Row) : Type 0 where
  pub column : ℕ
  pub sum : slice_get (aggs_of s) column ≡ Some Sum
  pub passes : sum_bound ≤ abs_total column rows

-- A total over the groups of merged rows, by the key columns and with the value columns at these places, once all inputs are merged: it really leaves its type where they are written, or their absolute values pass the bound, and no record could tell them. Where the inputs are told, the rows are the fold of all their rows. The newest of the inputs is told.
pub record IsRegroupedTotal (s : Columns) (columns values : List ℕ) (knowns : List Known) (d : Damage) : Type 0 where
  pub newest : ℕ
  pub last : IsNewestOf knowns newest
  pub rows : List Row
  pub merged : (contents : List (List Row)) → AreTold knowns contents → rows ≡ folded (aggs_of s) (lifted_parts knowns contents)
  pub leaves : LeavesAmong (TotalLeaves (grouped_columns s columns values)) (grouped s columns values rows) ⊎ PassesBound (grouped_columns s columns values) (grouped s columns values rows)
  pub told : d ≡ sum_damage newest

-- damage that is told where inputs of these columns are merged and grouped: the merge's own, a group's or a total's with one of the merged rows, or a total's over the groups
abbrev pub IsRegroupDamage : {R : Type 0} → (R → Option (List ℕ)) → (R → ℕ) → Columns → List ℕ → List ℕ → List (Input R) → Damage → Type 0
IsRegroupDamage bytes size s columns values inputs d = IsMergeDamage bytes size inputs d ⊎ IsRegroupedTotal s columns values (knowns_of bytes inputs) d
