-- Laws of lifting, of recasts, and of tables through their lives.
use Rattle.std.specs.Prelude.{◌≡◌, ℕ, ◌<◌, ◌≤◌, List, [], ◌++◌, map, take, length, IsTrue, is_ok, Ok}
use Rattle.std.specs.List.{AllByRecursion}
use Rattle.mesa_fold.specs.mesa_key.Spelling.{key_of, key_spelling}
use Rattle.mesa_columns.specs.declared.rows.Row.{Row}
use Rattle.mesa_columns.specs.declared.changes.Change.{Change}
use Rattle.mesa_columns.specs.declared.views.View.{View}
use Rattle.mesa_columns.specs.Columns.{Columns, aggs_of, kinds_of}
use Rattle.mesa_columns.specs.Rows.{AreRowsOf, IsRowOf, keys_rise}
use Rattle.mesa_columns.specs.Schema.{is_schema}
use Rattle.mesa_columns.specs.Changes.{changed, columns_after, lifted_by, lifted_once}
use Rattle.mesa_schema.specs.Changes.{Lineage, change_checked, columns_at, columns_of, epoch_of, lifted, rule_checked, with_change}
use Rattle.mesa_schema.specs.Lineages.{HasDefault, IsLineage, is_view_of}
use Rattle.mesa_schema.specs.Views.{max_views, view_columns, view_rows, with_view}
use Rattle.mesa_fold.specs.Folded.{folded, rows_of}
use Rattle.mesa_schema.specs.Recasts.{IsRecastOf, Recast, keeps_view, recast_checked, recast_columns, recast_lineage, recast_rows, views_kept}
use Rattle.mesa_schema.specs.Carried.{AreTurnsOf, Turn, carried, columns_through}

-- Rows may be lifted before folding or after it: through changes whose defaults stay when they are combined with themselves.
abbrev pub LiftsFolds : Type 0
LiftsFolds = (s : Columns) (changes : List Change) (parts : List (List Row)) → AllByRecursion HasDefault changes → AreRowsOf s (rows_of parts)
    → map (lifted_by s changes) (folded (aggs_of s) parts) ≡ folded (aggs_of (columns_after s changes)) (map (map (lifted_by s changes)) parts)

-- A lifted row has the form of the later columns.
abbrev pub KeepsForm : Type 0
KeepsForm = (s : Columns) (changes : List Change) (row : Row) → AllByRecursion HasDefault changes → IsRowOf s row → IsRowOf (columns_after s changes) (lifted_by s changes row)

-- ---- rows of an epoch at present

-- A lifted row has the form of the present columns.
abbrev pub LiftedForms : Type 0
LiftedForms = (l : Lineage) (epoch : ℕ) (row : Row) → IsLineage l → IsRowOf (columns_at l epoch) row → IsRowOf (columns_of l) (lifted l epoch (epoch_of l) row)

-- The columns of a lifted key that were there before spell the row's key.
abbrev pub LiftedKeys : Type 0
LiftedKeys = (l : Lineage) (epoch : ℕ) (row : Row) → IsRowOf (columns_at l epoch) row
    → key_spelling (take (length (columns_at l epoch).keys) (key_of (kinds_of (columns_of l)) (lifted l epoch (epoch_of l) row).key)) ≡ row.key

-- A lifted key begins with the row's key.
abbrev pub KeysGrow : Type 0
KeysGrow = (l : Lineage) (epoch : ℕ) (row : Row) → (more : List ℕ) × ((lifted l epoch (epoch_of l) row).key ≡ row.key ++ more)

-- Lifting leaves the order of rows.
abbrev pub LiftedRise : Type 0
LiftedRise = (l : Lineage) (epoch : ℕ) (rows : List Row) → IsLineage l → AreRowsOf (columns_at l epoch) rows → keys_rise (map (lifted l epoch (epoch_of l)) rows) ≡ keys_rise rows

-- Rows of an epoch may be lifted to the present before folding or after it.
abbrev pub LiftedFolds : Type 0
LiftedFolds = (l : Lineage) (epoch : ℕ) (parts : List (List Row)) → IsLineage l → AreRowsOf (columns_at l epoch) (rows_of parts)
    → map (lifted l epoch (epoch_of l)) (folded (aggs_of (columns_at l epoch)) parts) ≡ folded (aggs_of (columns_of l)) (map (map (lifted l epoch (epoch_of l))) parts)

-- A row of the present epoch stays as it is.
abbrev pub LiftedNow : Type 0
LiftedNow = (l : Lineage) (row : Row) → lifted l (epoch_of l) (epoch_of l) row ≡ row

-- After one change more a row goes through that change too.
abbrev pub LiftedMore : Type 0
LiftedMore = (l : Lineage) (change : Change) (epoch : ℕ) (row : Row) → epoch ≤ epoch_of l
    → lifted (with_change l change) epoch (epoch_of (with_change l change)) row ≡ lifted_once (columns_of l) change (lifted l epoch (epoch_of l) row)

-- ---- tables through their lives

-- A view outlives a change of its table's columns: it is allowed after it, it has the same columns, and the lifted rows are grouped to what the rows were grouped to.
pub record Outlives (s : Columns) (change : Change) (v : View) : Type 0 where
  pub allowed : IsTrue (is_view_of (changed s change) v)
  pub columns : view_columns (changed s change) v ≡ view_columns s v
  pub rows : (rows : List Row) → AreRowsOf s rows → view_rows (changed s change) v (map (lifted_once s change) rows) ≡ view_rows s v rows

-- Views outlive the changes that are allowed.
abbrev pub ViewsOutlive : Type 0
ViewsOutlive = (l : Lineage) (change : Change) → IsLineage l → IsTrue (is_ok (rule_checked l change)) → AllByRecursion (Outlives (columns_of l) change) l.views

-- A new table followed the rules where its columns make a schema.
abbrev pub NewLineages : Type 0
NewLineages = (s : Columns) → IsTrue (is_schema s) → IsLineage (record { begins = 0; first = s; changes = []; views = [] })

-- A table follows the rules through an allowed change whose default is one of its column.
abbrev pub ChangedLineages : Type 0
ChangedLineages = (l : Lineage) (change : Change) → IsLineage l → HasDefault change → IsTrue (is_ok (change_checked l change)) → IsLineage (with_change l change)

-- And when a view is added that the columns allow.
abbrev pub ViewedLineages : Type 0
ViewedLineages = (l : Lineage) (v : View) → IsLineage l → length l.views < max_views → IsTrue (is_view_of (columns_of l) v) → IsLineage (with_view l v)

-- A change more is made of the present columns.
abbrev pub ChangedColumns : Type 0
ChangedColumns = (l : Lineage) (change : Change) → columns_of (with_change l change) ≡ changed (columns_of l) change

-- ---- recasts

-- Rows may be folded before a recast or after it.
abbrev pub RecastsFold : Type 0
RecastsFold = (s : Columns) (r : Recast) (parts : List (List Row)) → IsRecastOf s r → AreRowsOf s (rows_of parts)
    → recast_rows s r (folded (aggs_of s) parts) ≡ folded (aggs_of (recast_columns s r)) (map (recast_rows s r) parts)

-- Recast rows have the form of the recast's columns.
abbrev pub RecastsForm : Type 0
RecastsForm = (s : Columns) (r : Recast) (rows : List Row) → AreRowsOf s rows → AreRowsOf (recast_columns s r) (recast_rows s r rows)

-- Their keys rise.
abbrev pub RecastsRise : Type 0
RecastsRise = (s : Columns) (r : Recast) (rows : List Row) → IsTrue (keys_rise (recast_rows s r rows))

-- A view outlasts a recast of its table: it is allowed after it, it has the same columns, and the recast rows are grouped to what the rows were grouped to.
pub record Outlasts (s : Columns) (r : Recast) (v : View) : Type 0 where
  pub allowed : IsTrue (is_view_of (recast_columns s r) v)
  pub columns : view_columns (recast_columns s r) v ≡ view_columns s v
  pub rows : (rows : List Row) → AreRowsOf s rows → view_rows (recast_columns s r) v (recast_rows s r rows) ≡ view_rows s v rows

-- Views outlast the recasts that keep their columns.
abbrev pub ViewsOutlast : Type 0
ViewsOutlast = (s : Columns) (r : Recast) (v : View) → IsRecastOf s r → IsTrue (is_view_of s v) → IsTrue (keeps_view r v) → Outlasts s r v

-- THE LAW OF FOLDING WITH CARRYING: rows may be carried before folding or after it.
abbrev pub CarriesFolds : Type 0
CarriesFolds = (s : Columns) (turns : List Turn) (parts : List (List Row)) → AreTurnsOf s turns → AreRowsOf s (rows_of parts)
    → carried s turns (folded (aggs_of s) parts) ≡ folded (aggs_of (columns_through s turns)) (map (carried s turns) parts)

-- Carried rows have the form of the columns to which they are carried.
abbrev pub CarriesForm : Type 0
CarriesForm = (s : Columns) (turns : List Turn) (rows : List Row) → AreTurnsOf s turns → AreRowsOf s rows → AreRowsOf (columns_through s turns) (carried s turns rows)

-- A table follows the rules through an allowed recast.
abbrev pub RecastLineages : Type 0
RecastLineages = (l : Lineage) (r : Recast) → IsLineage l → recast_checked l r ≡ Ok tt → IsLineage (recast_lineage l r)

-- Where a recast was allowed of a table, and the table has the columns and the epoch that it had, only a view can be against it.
abbrev pub RecastsGoOn : Type 0
RecastsGoOn = (l later : Lineage) (r : Recast) → recast_checked l r ≡ Ok tt → columns_of later ≡ columns_of l → epoch_of later ≡ epoch_of l → recast_checked later r ≡ views_kept later.views r
