-- A sum that leaves its type, and which rows are of its group.
use Rattle.std.specs.Prelude.{◌≡◌, ◌⊎◌, ℕ, ℤ, List, [], ◌∷◌, ◌++◌, slice_get, Some}
use Rattle.std.specs.List.{concat}
use Rattle.mesa_key.specs.Spelling.{columns_of}
use Rattle.mesa_model.specs.mesa_columns.declared.rows.Row.{Row}
use Rattle.mesa_model.specs.mesa_columns.Columns.{Columns, aggs_of, chosen, kinds_of}
use Rattle.mesa_model.specs.mesa_fold.Folded.{AllCombine}
use Rattle.mesa_answer.specs.Gathering.{Wanted, first_groups}

-- the key of the group of rows with this key, by the key columns at these places
abbrev pub group_key : Columns → List ℕ → List ℕ → List ℕ
group_key s columns key = concat (chosen columns (columns_of (kinds_of s) key))

-- one of the rows is of the group with this key
abbrev pub HasGroup : Columns → List ℕ → List ℕ → List Row → Type 0
HasGroup s columns key [] = ⊥
HasGroup s columns key (row ∷ rows) = (group_key s columns row.key ≡ key) ⊎ HasGroup s columns key rows

-- A sum of the group of this key leaves its type with a row: that group of the rows before it has values that don't combine with the row's.
pub record SumLeaves (w : Wanted) (given : List Row) (row : Row) (key : List ℕ) : Type 0 where
  pub of_group : group_key w.schema w.columns row.key ≡ key
  pub place : ℕ
  pub old : List ℤ
  pub group : slice_get (first_groups w given) place ≡ Some (record { key = key; values = old })
  pub leaves : AllCombine (chosen w.values (aggs_of w.schema)) old (chosen w.values row.values) → ⊥

-- It leaves its type with one of these rows, as they are put in one by one behind those that were given.
pub record SumLeavesAmong (w : Wanted) (given rows : List Row) (key : List ℕ) : Type 0 where
  pub front : List Row
  pub row : Row
  pub rest : List Row
  pub split : rows ≡ front ++ row ∷ rest
  pub leaves : SumLeaves w (given ++ front) row key
