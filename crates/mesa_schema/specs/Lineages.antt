-- Tables whose columns have followed the rules.
use Rattle.std.specs.Prelude.{◌≡◌, ℕ, ◌≤◌, length, unwrap_or, IsTrue, Bool, is_ok, Option, ⊤}
use Rattle.std.specs.List.{AllByRecursion, list_all}
use Rattle.mesa_fold.specs.mesa_value.Agg.{IsDefault}
use Rattle.mesa_fold.specs.mesa_key.Spelling.{IsValue}
use Rattle.mesa_columns.specs.declared.changes.Change.{Change}
use Rattle.mesa_columns.specs.declared.changes.Change.TheVariants.{AddKey, AddValue, DropValue}
use Rattle.mesa_columns.specs.declared.views.View.{View}
use Rattle.mesa_columns.specs.Columns.{Columns}
use Rattle.mesa_columns.specs.Schema.{is_schema}
use Rattle.mesa_schema.specs.Changes.{Lineage, columns_at, columns_of, epoch_of, max_changes}
use Rattle.mesa_schema.specs.Views.{max_views, view_checked}

-- a view that the columns allow
abbrev pub is_view_of : Columns → View → Bool
is_view_of s v = is_ok (view_checked s v.keys v.values)

-- A change's default is one of its column: a value that stays when it is combined with itself, or a key value of its type.
abbrev pub HasDefault : Change → Type 0
HasDefault (AddValue column default) = IsDefault column.agg default
HasDefault (DropValue name) = ⊤
HasDefault (AddKey column default) = IsValue column.kind default

-- A lineage that followed the rules: its columns make a schema at each epoch, its changes have defaults of their columns, its views are allowed by the present ones, and there are not too many changes or views.
pub record IsLineage (l : Lineage) : Type 0 where
  pub schemas : (epoch : ℕ) → IsTrue (is_schema (columns_at l epoch))
  pub defaults : AllByRecursion HasDefault l.changes
  pub views : IsTrue (list_all (is_view_of (columns_of l)) l.views)
  pub few_changes : epoch_of l ≤ max_changes
  pub few_views : length l.views ≤ max_views

-- Kept beside a lineage: its present columns, where they differ from the first.
pub record IsKept (l : Lineage) (columns : Option Columns) : Type 0 where
  pub lineage : IsLineage l
  pub present : unwrap_or columns l.first ≡ columns_of l
