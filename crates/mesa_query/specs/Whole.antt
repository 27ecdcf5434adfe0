-- The whole answer to a query.
use Rattle.std.specs.Prelude.{◌-◌, ◌^◌, List, false, None}
use Rattle.mesa_group_blocks.specs.mesa_columns.declared.rows.Row.{Row}
use Rattle.mesa_group_blocks.specs.mesa_columns.Columns.{Columns, aggs_of}
use Rattle.mesa_group_blocks.specs.mesa_fold.Folded.{folded}
use Rattle.mesa_filter.specs.Query.{BuiltQuery}
use Rattle.mesa_model.specs.Query.{answer_rows}
use Rattle.mesa_group_blocks.specs.mesa_answer.Gathering.{Wanted}

-- The rows of a query over parts of its relation that were loaded one after the other: of the answer over their fold, without a page's cut.
abbrev pub whole_over : Columns → BuiltQuery → List (List Row) → List Row
whole_over s q parts = answer_rows s q.asked (folded (aggs_of s) parts)

-- what they are made of: all groups
abbrev pub all_wanted : Columns → BuiltQuery → Wanted
all_wanted s q = record { schema = s; columns = q.asked.columns; values = q.asked.values; resume = None; inclusive = false; most = 2 ^ 64 - 1 }
