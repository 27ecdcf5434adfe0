-- What stays of a table's columns and views while they are changed.
use Rattle.std.specs.Prelude.{◌≡◌, ◌⊎◌, ◌<◌, ℕ, List, length, map, take, IsTrue, is_ok, Some, slice_get}
use Rattle.mesa_columns.specs.declared.changes.Change.{Change}
use Rattle.mesa_columns.specs.declared.rows.Row.{Row}
use Rattle.mesa_columns.specs.declared.views.View.{View}
use Rattle.mesa_pick_files.specs.mesa_schema.Changes.{Lineage, columns_of, epoch_of, lifted, rule_checked, with_change}
use Rattle.mesa_pick_files.specs.mesa_schema.Lineages.{IsLineage}
use Rattle.mesa_pick_files.specs.mesa_schema.Recasts.{Recast, recast_lineage}
use Rattle.mesa_columns.specs.Rows.{AreRowsOf}
use Rattle.mesa_pick_files.specs.mesa_schema.Views.{view_columns, view_rows, with_view}

-- The view of a number is there still: it has the columns that it had, and lifted rows are grouped to what the rows were grouped to.
pub record HasOutlived (was now : Lineage) (number : ℕ) (v : View) : Type 0 where
  pub there : slice_get now.views number ≡ Some v
  pub columns : view_columns (columns_of now) v ≡ view_columns (columns_of was) v
  pub rows : (rows : List Row) → AreRowsOf (columns_of was) rows → view_rows (columns_of now) v (map (lifted now (epoch_of was) (epoch_of now)) rows) ≡ view_rows (columns_of was) v rows

-- A table's columns and views have become these: they begin at the same epoch, the changes that there were stand before those that came since, and each view that there was is there still.
pub record HasGrown (was now : Lineage) : Type 0 where
  pub begins : now.begins ≡ was.begins
  pub first : now.first ≡ was.first
  pub changes : take (length was.changes) now.changes ≡ was.changes
  pub views : (number : ℕ) (v : View) → slice_get was.views number ≡ Some v → HasOutlived was now number v

-- Nothing has come yet.
abbrev pub GrowsFromItself : Type 0
GrowsFromItself = (l : Lineage) → HasGrown l l

-- A change comes that the rules allow.
abbrev pub GrowsByChange : Type 0
GrowsByChange = (was now : Lineage) (change : Change) → IsLineage now → IsTrue (is_ok (rule_checked now change)) → HasGrown was now → HasGrown was (with_change now change)

-- A view comes.
abbrev pub GrowsByView : Type 0
GrowsByView = (was now : Lineage) (v : View) → HasGrown was now → HasGrown was (with_view now v)

-- A table's columns and views have become these: they have grown, or the table was recast since.
abbrev pub HasBecome : Lineage → Lineage → Type 0
HasBecome was now = HasGrown was now ⊎ (epoch_of was < now.begins)

-- Nothing has come yet.
abbrev pub BecomesItself : Type 0
BecomesItself = (l : Lineage) → HasBecome l l

-- A change comes that the rules allow.
abbrev pub BecomesByChange : Type 0
BecomesByChange = (was now : Lineage) (change : Change) → IsLineage now → IsTrue (is_ok (rule_checked now change)) → HasBecome was now → HasBecome was (with_change now change)

-- A view comes.
abbrev pub BecomesByView : Type 0
BecomesByView = (was now : Lineage) (v : View) → HasBecome was now → HasBecome was (with_view now v)

-- A recast comes.
abbrev pub BecomesByRecast : Type 0
BecomesByRecast = (was now : Lineage) (r : Recast) → HasBecome was now → HasBecome was (recast_lineage now r)

-- Where the columns begin at the same epoch, they have grown.
abbrev pub GrowsWhereItBegins : Type 0
GrowsWhereItBegins = (was now : Lineage) → now.begins ≡ was.begins → HasBecome was now → HasGrown was now

-- The columns are the same; views may have been made since.
pub record HasSameColumns (was now : Lineage) : Type 0 where
  pub begins : now.begins ≡ was.begins
  pub first : now.first ≡ was.first
  pub changes : now.changes ≡ was.changes

-- Where the epoch is the same, the columns are.
abbrev pub StaysWithItsEpoch : Type 0
StaysWithItsEpoch = (was now : Lineage) → epoch_of now ≡ epoch_of was → HasBecome was now → HasSameColumns was now
