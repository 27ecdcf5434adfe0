-- The first groups of rows.
use Rattle.std.specs.Prelude.{◌≡◌, ℕ, ◌+◌, ◌++◌, Bool, false, true, List, [], Option, None, Some, filter, take}
use Rattle.mesa_model.specs.mesa_columns.declared.rows.Row.{Row}
use Rattle.mesa_model.specs.mesa_columns.Columns.{Columns, aggs_of, chosen}
use Rattle.mesa_model.specs.mesa_fold.Folded.{grouped}
use Rattle.mesa_model.specs.mesa_fold.Put.{put_rows}
use Rattle.mesa_filter.specs.Query.{BuiltQuery}
use Rattle.mesa_answer.specs.Held.{is_behind}

-- What groups are wanted: the columns of the rows, the places of the group columns and of the value columns, the group key behind which the groups begin, whether with the group of that key itself, and how many they are at most.
pub record Wanted : Type 0 where
  pub schema : Columns
  pub columns : List ℕ
  pub values : List ℕ
  pub resume : Option (List ℕ)
  pub inclusive : Bool
  pub most : ℕ

-- what the page of a query of these columns is made of: one group more than it shows
abbrev pub wanted_by : Columns → BuiltQuery → Wanted
wanted_by s q = record { schema = s; columns = q.asked.columns; values = q.asked.values; resume = q.resume; inclusive = false; most = q.limit + 1 }

-- the first group at this group key or behind it, without values
abbrev pub group_from : Columns → List ℕ → List ℕ → Wanted
group_from s columns key = record { schema = s; columns = columns; values = []; resume = Some key; inclusive = true; most = 1 }

-- rows behind a key, or at it too where that is meant
abbrev pub rows_behind : Bool → Option (List ℕ) → List Row → List Row
rows_behind inclusive None rows = rows
rows_behind inclusive (Some key) rows = filter (λ row. is_behind inclusive (Some key) row.key) rows

-- FirstGroups: of the groups of rows behind the resume key, the first.
abbrev pub first_groups : Wanted → List Row → List Row
first_groups w rows = take w.most (rows_behind w.inclusive w.resume (grouped w.schema w.columns w.values rows))

-- The first groups of a whole are those of its parts' first groups, where those of the newer part are put behind those of the older one.
abbrev pub JoinsFirst : Type 0
JoinsFirst = (w : Wanted) (older newer : List Row) → first_groups w (older ++ newer) ≡ take w.most (put_rows (chosen w.values (aggs_of w.schema)) (first_groups w older) (first_groups w newer))
