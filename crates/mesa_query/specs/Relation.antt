-- The rows of files as rows of the queried relation.
use Rattle.std.specs.Prelude.{ℕ, List, [], ◌∷◌, Option}
use Rattle.mesa_group_blocks.specs.mesa_columns.declared.rows.Row.{Row}
use Rattle.mesa_group_blocks.specs.mesa_columns.Columns.{Columns, aggs_of}
use Rattle.mesa_group_blocks.specs.mesa_fold.Folded.{folded}
use Rattle.mesa_filter.specs.Query.{BuiltQuery}
use Rattle.mesa_model.specs.declared.replies.Page.{Page}
use Rattle.mesa_model.specs.Page.{page_of}
use Rattle.mesa_model.specs.Query.{answer_rows}
use Rattle.mesa_group_blocks.specs.mesa_open_files.Pins.{rows_pinned}
use Rattle.mesa_group_blocks.specs.mesa_open_files.declared.querying.PinnedInput.{PinnedInput}
pub use Rattle.mesa_group_blocks.specs.Ungrouped.{parts_ungrouped, rows_under, rows_ungrouped, under_some, under_view}

-- The relation's rows in each pinned file, by the rows of the files: its own, or its table's grouped by the view.
abbrev pub parts_pinned : {R : Type 0} → Option ℕ → List (PinnedInput R) → List (List Row) → List (List Row)
parts_pinned view [] contents = []
parts_pinned view (file ∷ files) [] = []
parts_pinned view (file ∷ files) (rows ∷ contents) = rows_pinned view file rows ∷ parts_pinned view files contents

-- The page of a query over parts of its relation that were loaded one after the other: of the answer over their fold.
abbrev pub page_over : Columns → BuiltQuery → List (List Row) → Page
page_over s q parts = page_of q.version q.limit q.resume (answer_rows s q.asked (folded (aggs_of s) parts))
