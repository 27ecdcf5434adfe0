-- Recasts: a table takes columns chosen among its own, in an order of their own, and its rows are grouped by them.
use Rattle.std.specs.Prelude.{◌≡◌, ℕ, ◌+◌, List, [], map, find, Bool, ◌&&◌, ◌==◌, not, nat_le, if◌then◌else◌, Option, Some, None, Result, Ok, Err, IsTrue, is_ok}
use Rattle.std.specs.List.{enumerate_from, list_all, list_any}
use Rattle.mesa_fold.specs.mesa_list.Checks.{◌>>◌, refuse_if, refused_as}
use Rattle.mesa_columns.specs.declared.rows.Row.{Row}
use Rattle.mesa_columns.specs.declared.columns.ValueColumn.{ValueColumn}
use Rattle.mesa_columns.specs.declared.views.View.{View}
use Rattle.mesa_columns.specs.declared.views.ViewError.{ViewError}
use Rattle.mesa_columns.specs.declared.views.ViewError.TheVariants as view
use Rattle.mesa_schema.specs.declared.recasts.RecastError.{RecastError}
use Rattle.mesa_schema.specs.declared.recasts.RecastError.TheVariants as no
use Rattle.mesa_schema.specs.Changes.{Lineage, columns_of, epoch_of, max_changes}
use Rattle.mesa_columns.specs.Names.{has_name}
use Rattle.mesa_columns.specs.Columns.{Columns, chosen, is_replace, key_names, places_in, value_names}
use Rattle.mesa_schema.specs.Views.{choice_checked}
use Rattle.mesa_fold.specs.Folded.{grouped}

-- The columns that a recast asks for, by name and in this order.
pub record Recast : Type 0 where
  pub keys : List (List ℕ)
  pub values : List (List ℕ)

-- the places of its key columns among the table's
abbrev pub recast_keys : Columns → Recast → List ℕ
recast_keys s r = places_in (key_names s) r.keys

-- the places of its value columns among the table's
abbrev pub recast_values : Columns → Recast → List ℕ
recast_values s r = places_in (value_names s) r.values

-- The columns after a recast.
abbrev pub recast_columns : Columns → Recast → Columns
recast_columns s r = record { keys = chosen (recast_keys s r) s.keys; values = chosen (recast_values s r) s.values }

-- Rows of the columns before it, after it: grouped by its key columns, with its value columns.
abbrev pub recast_rows : Columns → Recast → List Row → List Row
recast_rows s r rows = grouped s (recast_keys s r) (recast_values s r) rows

-- the numbers below the length
abbrev pub places_below : {X : Type 0} → List X → List ℕ
places_below xs = map (λ p. p.0) (enumerate_from 0 xs)

-- whether every key column is kept
abbrev pub keeps_all_keys : Columns → Recast → Bool
keeps_all_keys s r = list_all (λ place. list_any (λ c. c == place) (recast_keys s r)) (places_below s.keys)

-- the first replace column that is asked for while a key column is left out
abbrev pub replace_left : Columns → Recast → Option ValueColumn
replace_left s r = if keeps_all_keys s r then None else find is_replace (chosen (recast_values s r) s.values)

-- whether a recast keeps every column that a view uses
abbrev pub keeps_view : Recast → View → Bool
keeps_view r v = list_all (λ name. has_name name r.keys) v.keys && list_all (λ name. has_name name r.values) v.values

-- What the checks of a recast say of its columns: key columns and value columns are a choice of the table's each, and a replace column is asked for only with every key column.
pub record IsRecastOf (s : Columns) (r : Recast) : Type 0 where
  pub keys : IsTrue (is_ok (choice_checked (key_names s) view.NoKey r.keys))
  pub values : IsTrue (is_ok (choice_checked (value_names s) view.NoValue r.values))
  pub replaces : replace_left s r ≡ None

-- ---- which recasts are allowed

-- why a choice of columns is refused
abbrev pub choice_refusal : ViewError → RecastError
choice_refusal view.NoColumn = no.NoColumn
choice_refusal view.NoKey = no.NoKey
choice_refusal view.NoValue = no.NoValue
choice_refusal view.NameTwice = no.NameTwice
choice_refusal (view.ReplaceInView column) = no.ReplaceGroup column
choice_refusal view.Memory = no.Memory

-- refused by a replace column that is asked for while a key column is left out
abbrev pub refuse_left : Option ValueColumn → Result (Unit {0}) RecastError
refuse_left None = Ok tt
refuse_left (Some column) = Err (no.ReplaceGroup column.name)

-- refused by a view that loses a column
abbrev pub refuse_losing : Option View → Result (Unit {0}) RecastError
refuse_losing None = Ok tt
refuse_losing (Some v) = Err (no.InView v.name)

-- no view uses a column that a recast leaves out, or the first that does
abbrev pub views_kept : List View → Recast → Result (Unit {0}) RecastError
views_kept views r = refuse_losing (find (λ v. not (keeps_view r v)) views)

-- what a recast asks for is a choice of the columns, with a replace column only beside every key column
abbrev pub columns_checked : Columns → Recast → Result (Unit {0}) RecastError
columns_checked s r = do
  refused_as choice_refusal (choice_checked (key_names s) view.NoKey r.keys)
  refused_as choice_refusal (choice_checked (value_names s) view.NoValue r.values)
  refuse_left (replace_left s r)

-- The rules of a recast in their order: its columns are a choice of the table's; a replace column asks for every key column; no view loses a column; and the number of changes, last.
abbrev pub recast_checked : Lineage → Recast → Result (Unit {0}) RecastError
recast_checked l r = do
  columns_checked (columns_of l) r
  views_kept l.views r
  refuse_if (nat_le max_changes (epoch_of l)) no.EpochsFull

-- The lineage of a recast table: these columns begin the next epoch, there are no changes yet, and the views stay.
abbrev pub recast_lineage : Lineage → Recast → Lineage
recast_lineage l r = record { begins = epoch_of l + 1; first = recast_columns (columns_of l) r; changes = []; views = l.views }
