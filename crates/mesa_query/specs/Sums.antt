-- A group's sum that leaves its type, and the newest file that holds the group.
use Rattle.std.specs.Prelude.{◌≡◌, ℕ, ◌<◌, ◌≤◌, List, [], ◌++◌, slice_get, Option, Some}
use Rattle.mesa_file.specs.declared.damage.Damage.{Damage}
use Rattle.mesa_group_blocks.specs.mesa_columns.declared.rows.Row.{Row}
use Rattle.mesa_group_blocks.specs.mesa_columns.Columns.{Columns}
use Rattle.mesa_group_blocks.specs.mesa_fold.Folded.{rows_of}
use Rattle.mesa_filter.specs.declared.terms.Term.{Term}
use Rattle.mesa_filter.specs.Filter.{filtered}
use Rattle.mesa_group_blocks.specs.mesa_delta.Reading.{index_of}
use Rattle.mesa_group_blocks.specs.mesa_merge.Inputs.{AreTold, IsTold, known_of, knowns_of}
use Rattle.mesa_group_blocks.specs.mesa_answer.Gathering.{Wanted}
use Rattle.mesa_group_blocks.specs.mesa_answer.Sums.{HasGroup, SumLeavesAmong}
use Rattle.mesa_group_blocks.specs.mesa_view.SumDamage.{IsSumDamage}
use Rattle.mesa_group_blocks.specs.mesa_open_files.declared.querying.PinnedInput.{PinnedInput}
use Rattle.mesa_group_blocks.specs.Moved.{inputs_in}
use Rattle.mesa_group_blocks.specs.Ungrouped.{parts_ungrouped, rows_ungrouped}

-- a file's matching rows under the relation's keys, by its rows
abbrev pub rows_matching : {R : Type 0} → Columns → List Term → Option ℕ → PinnedInput R → List Row → List Row
rows_matching s terms view file rows = filtered s terms (rows_ungrouped view file rows)

-- A file holds a group: where it is told and its index is true of it, one of its matching rows is of the group with this key.
abbrev pub HoldsGroup : {R : Type 0} → (R → Option (List ℕ)) → Wanted → List Term → Option ℕ → List ℕ → PinnedInput R → Type 0
HoldsGroup bytes w terms view key file = (rows : List Row) → IsTold (known_of bytes file.input) rows → HasGroup w.schema w.columns key (rows_matching w.schema terms view file rows)

-- A file doesn't hold it: where it is told and its index is true of it, none of them is.
abbrev pub LacksGroup : {R : Type 0} → (R → Option (List ℕ)) → Wanted → List Term → Option ℕ → List ℕ → PinnedInput R → Type 0
LacksGroup bytes w terms view key file = (rows : List Row) → IsTold (known_of bytes file.input) rows → HasGroup w.schema w.columns key (rows_matching w.schema terms view file rows) → ⊥

-- The newest file that holds a group, among one and those behind it, of which the first is known to hold it.
pub record IsNewestFrom {R : Type 0} (bytes : R → Option (List ℕ)) (w : Wanted) (terms : List Term) (view : Option ℕ) (key : List ℕ) (from : ℕ) (files : List (PinnedInput R)) (id : ℕ) : Type 0 where
  pub at : ℕ
  pub file : PinnedInput R
  pub behind : from ≤ at
  pub one : slice_get files at ≡ Some file
  pub holds : from < at → HoldsGroup bytes w terms view key file
  pub newer : (j : ℕ) (other : PinnedInput R) → at < j → slice_get files j ≡ Some other → LacksGroup bytes w terms view key other
  pub is : id ≡ (index_of file.input.reader).file

-- A sum of a group leaves its type with one of the matching rows of the files, which are put in one by one in the order of the versions. It is told of the newest file that holds the group.
pub record IsSumIn {R : Type 0} (bytes : R → Option (List ℕ)) (w : Wanted) (terms : List Term) (view : Option ℕ) (files : List (PinnedInput R)) (d : Damage) : Type 0 where
  pub key : List ℕ
  pub given : List Row
  pub leaves : SumLeavesAmong w [] given key
  pub first : (contents : List (List Row)) → AreTold (knowns_of bytes (inputs_in files)) contents → (rest : List Row) × (filtered w.schema terms (rows_of (parts_ungrouped view files contents)) ≡ given ++ rest)
  pub at : ℕ
  pub file : PinnedInput R
  pub one : slice_get files at ≡ Some file
  pub holds : HoldsGroup bytes w terms view key file
  pub newer : (j : ℕ) (other : PinnedInput R) → at < j → slice_get files j ≡ Some other → LacksGroup bytes w terms view key other
  pub told : IsSumDamage (index_of file.input.reader).file d
