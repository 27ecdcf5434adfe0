-- Laws of queries over views.
use Rattle.std.specs.Prelude.{◌≡◌, List, ◌∷◌, ◌++◌}
use Rattle.mesa_group_blocks.specs.mesa_columns.declared.rows.Row.{Row}
use Rattle.mesa_group_blocks.specs.mesa_columns.declared.views.View.{View}
use Rattle.mesa_group_blocks.specs.mesa_columns.Columns.{Columns, aggs_of}
use Rattle.mesa_group_blocks.specs.mesa_fold.Folded.{folded}
use Rattle.mesa_group_blocks.specs.mesa_schema.Views.{view_columns, view_rows}
use Rattle.mesa_group_blocks.specs.Ungrouped.{under_view}

-- A view's rows that are derived from a part of its table need not be grouped first: wherever the part stands among others, they fold to the same as the part's rows under the view's keys.
abbrev pub FoldsUngrouped : Type 0
FoldsUngrouped = (table : Columns) (v : View) (before : List (List Row)) (rows : List Row) (after : List (List Row))
    → folded (aggs_of (view_columns table v)) (before ++ view_rows table v rows ∷ after) ≡ folded (aggs_of (view_columns table v)) (before ++ under_view table v rows ∷ after)
