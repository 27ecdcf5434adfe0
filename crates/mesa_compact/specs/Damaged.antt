-- What damage is told of the inputs of a merge.
use Rattle.std.specs.Prelude.{◌≡◌, ◌⊎◌, ℕ, ◌<◌, ◌-◌, List, [], ◌∷◌, ◌++◌, length, slice_get, Option, Some}
use Rattle.mesa_file.specs.declared.damage.Damage.{Damage}
use Rattle.mesa_open_files.specs.mesa_columns.declared.rows.Row.{Row}
use Rattle.mesa_open_files.specs.mesa_columns.declared.views.View.{View}
use Rattle.mesa_schema.specs.Changes.{Lineage, columns_of}
use Rattle.mesa_open_files.specs.mesa_columns.Columns.{Columns, aggs_of}
use Rattle.mesa_open_files.specs.mesa_fold.Folded.{folded}
use Rattle.mesa_schema.specs.Views.{view_columns, view_rows}
use Rattle.mesa_open_files.specs.mesa_delta_format.Summary.{AllCombine, aggregates}
use Rattle.mesa_delta.specs.declared.input.Input.{Input}
use Rattle.mesa_answer.specs.Answering.{KeepsSums}
use Rattle.mesa_answer.specs.Gathering.{Wanted}
use Rattle.mesa_answer.specs.Sums.{SumLeaves}
use Rattle.mesa_merge.specs.Damaged.{IsDamageOf, IsNewestWith}
use Rattle.mesa_merge.specs.Inputs.{AreAlike, AreTold, Known, knowns_of, lifted_parts}
use Rattle.mesa_merge.specs.Sums.{sum_damage}

-- A total over rows of these columns really leaves its type with one row more: some rows stand before it, and their totals don't combine with its values.
pub record TotalLeaves (s : Columns) (before : List Row) (row : Row) : Type 0 where
  pub some : 0 < length before
  pub leaves : AllCombine (aggs_of s) (aggregates (aggs_of s) before) row.values → ⊥

-- so does a sum of a group of such rows
pub record GroupLeaves (s : Columns) (before : List Row) (row : Row) : Type 0 where
  pub groups : Wanted
  pub schema : groups.schema ≡ s
  pub key : List ℕ
  pub leaves : SumLeaves groups before row key

-- one of both does
abbrev pub RowLeaves : Columns → List Row → Row → Type 0
RowLeaves s before row = TotalLeaves s before row ⊎ GroupLeaves s before row

-- Something leaves its type with one of some rows, as they are taken in their order.
pub record LeavesAmong (Leaves : List Row → Row → Type 0) (rows : List Row) : Type 0 where
  pub front : List Row
  pub row : Row
  pub rest : List Row
  pub split : rows ≡ front ++ row ∷ rest
  pub leaves : Leaves front row

-- A total over the rows of a view of a table's rows really leaves its type.
pub record ViewLeaves (l : Lineage) (rows : List Row) : Type 0 where
  pub number : ℕ
  pub view : View
  pub one : slice_get l.views number ≡ Some view
  pub total : LeavesAmong (TotalLeaves (view_columns (columns_of l) view)) (view_rows (columns_of l) view rows)

-- A total over merged rows of several keys leaves its type, the table's or one of a group of its views, which no file alone brings: with the last row of the fold of what was given it really does, and the absolute values of a sum column add up to more than it holds. It is told of the newest file that holds that row's key.
pub record IsTotalOf {R : Type 0} (bytes : R → Option (List ℕ)) (inputs : List (Input R)) (d : Damage) : Type 0 where
  pub columns : Columns
  pub alike : AreAlike columns (knowns_of bytes inputs)
  pub givens : List (List Row)
  pub front : List Row
  pub row : Row
  pub fold : folded (aggs_of columns) givens ≡ front ++ row ∷ []
  pub really : RowLeaves columns front row
  pub leaves : KeepsSums columns (front ++ row ∷ []) → ⊥
  pub file : Known
  pub newest : IsNewestWith bytes inputs row.key givens file
  pub told : d ≡ sum_damage file.file.file

-- damage that is told where inputs are merged into files: the merge's own, or a total's
abbrev pub IsMergeDamage : {R : Type 0} → (R → Option (List ℕ)) → (R → ℕ) → List (Input R) → Damage → Type 0
IsMergeDamage bytes size inputs d = IsDamageOf bytes size inputs d ⊎ IsTotalOf bytes inputs d

-- this is the file of the newest of the inputs
pub record IsNewestOf (knowns : List Known) (id : ℕ) : Type 0 where
  pub file : Known
  pub last : slice_get knowns (length knowns - 1) ≡ Some file
  pub is : id ≡ file.file.file

-- Rows are the merge of inputs, where these are told.
abbrev pub AreMerged : Columns → List Known → List Row → Type 0
AreMerged s knowns rows = (contents : List (List Row)) → AreTold knowns contents → rows ≡ folded (aggs_of s) (lifted_parts knowns contents)

-- they are the first ones of it
abbrev pub BeginMerged : Columns → List Known → List Row → Type 0
BeginMerged s knowns rows = (contents : List (List Row)) → AreTold knowns contents → (rest : List Row) × (folded (aggs_of s) (lifted_parts knowns contents) ≡ rows ++ rest)

-- A total over rows of several inputs really leaves its type: with one of the first rows of their merge, or where the groups of a view are written once all are merged. The newest of the inputs is told.
pub record IsGroupsTotalOf (knowns : List Known) (d : Damage) : Type 0 where
  pub newest : ℕ
  pub last : IsNewestOf knowns newest
  pub rows : List Row
  pub leaves : (BeginMerged (columns_of last.file.table) knowns rows × LeavesAmong (RowLeaves (columns_of last.file.table)) rows) ⊎ (AreMerged (columns_of last.file.table) knowns rows × ViewLeaves last.file.table rows)
  pub told : d ≡ sum_damage newest
