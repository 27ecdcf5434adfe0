-- What answering a query rests on, and the form of what it gives.
use Rattle.std.specs.Prelude.{◌≡◌, ℕ, ◌<◌, List, map, slice_get, Some}
use Rattle.mesa_value.specs.declared.Agg.TheVariants.{Sum}
use Rattle.mesa_model.specs.mesa_columns.declared.rows.Row.{Row}
use Rattle.mesa_model.specs.mesa_columns.Columns.{Columns, aggs_of, chosen}
use Rattle.mesa_model.specs.mesa_fold.Folded.{folded, grouped, rows_of}
use Rattle.mesa_model.specs.mesa_columns.Rows.{AreRowsOf}
use Rattle.mesa_batch.specs.Totals.{abs_total, sum_bound}
use Rattle.mesa_filter.specs.Filter.{filtered}
use Rattle.mesa_filter.specs.Query.{BuiltQuery, IsQueryOf}
use Rattle.mesa_model.specs.Query.{answer_rows}

-- In each sum column the absolute values of the rows add up to at most 2^127 - 1, so that whichever of them are added up, the sum is an amount.
abbrev pub KeepsSums : Columns → List Row → Type 0
KeepsSums s rows = (c : ℕ) → slice_get (aggs_of s) c ≡ Some Sum → abs_total c rows < sum_bound

-- The columns of rows that are grouped by the key columns at these places, with the value columns at those.
abbrev pub grouped_columns : Columns → List ℕ → List ℕ → Columns
grouped_columns s columns values = record { keys = chosen columns s.keys; values = chosen values s.values }

-- The answer over the fold of parts is the answer over their rows, one part after the other. Each key column of a replace column's query is asked, so this holds of replace columns too.
pub record AnswersParts : Type 0 where
  pub fold : (s : Columns) (q : BuiltQuery) (parts : List (List Row)) → IsQueryOf s q → AreRowsOf s (rows_of parts) → answer_rows s q.asked (folded (aggs_of s) parts) ≡ answer_rows s q.asked (rows_of parts)
  pub filtered : (s : Columns) (q : BuiltQuery) (parts : List (List Row)) → IsQueryOf s q → AreRowsOf s (rows_of parts)
      → answer_rows s q.asked (folded (aggs_of s) parts) ≡ grouped s q.asked.columns q.asked.values (rows_of (map (filtered s q.asked.terms) parts))
