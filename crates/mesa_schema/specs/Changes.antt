-- A table's columns since it was made or recast, with its linked changes, and the rules of these.
use Rattle.std.specs.Prelude.{ℕ, ◌+◌, ◌-◌, ℤ, List, [], ◌∷◌, ◌++◌, take, drop, find, length, nat_le, ◌==◌, Option, None, Some, Result, Ok, Err}
use Rattle.mesa_fold.specs.mesa_list.Checks.{◌>>◌, refuse_if, refuse_unless}
use Rattle.mesa_fold.specs.mesa_key.declared.KeyValue.{KeyValue}
use Rattle.mesa_columns.specs.declared.rows.Row.{Row}
use Rattle.mesa_columns.specs.declared.columns.KeyColumn.{KeyColumn}
use Rattle.mesa_columns.specs.declared.columns.ValueColumn.{ValueColumn}
use Rattle.mesa_columns.specs.declared.views.View.{View}
use Rattle.mesa_columns.specs.declared.changes.Change.{Change}
use Rattle.mesa_columns.specs.declared.changes.Change.TheVariants.{AddValue, DropValue, AddKey}
use Rattle.mesa_columns.specs.declared.changes.ChangeError.{ChangeError}
use Rattle.mesa_columns.specs.declared.changes.ChangeError.TheVariants as no
use Rattle.mesa_columns.specs.Names.{has_name}
use Rattle.mesa_columns.specs.Columns.{Columns, key_names, value_names}
use Rattle.mesa_columns.specs.Schema.{max_columns}
use Rattle.mesa_columns.specs.Changes.{columns_after, lifted_by, is_default, is_of_kind}

-- how many changes and recasts a table may have
abbrev pub max_changes : ℕ
max_changes = 1000

-- A table's columns since it was made or recast: the number of its first epoch, the columns of that epoch, the changes since, and its views.
pub record Lineage : Type 0 where
  pub begins : ℕ
  pub first : Columns
  pub changes : List Change
  pub views : List View

-- the present epoch: each change and each recast raised it by 1
abbrev pub epoch_of : Lineage → ℕ
epoch_of l = l.begins + length l.changes

-- the columns of an epoch
abbrev pub columns_at : Lineage → ℕ → Columns
columns_at l epoch = columns_after l.first (take (epoch - l.begins) l.changes)

-- the present columns
abbrev pub columns_of : Lineage → Columns
columns_of l = columns_after l.first l.changes

-- Lift: a row of one epoch at a later one, by the table's changes from the one to the other, in order.
abbrev pub lifted : Lineage → ℕ → ℕ → Row → Row
lifted l from to row = lifted_by (columns_at l from) (take (to - l.begins - (from - l.begins)) (drop (from - l.begins) l.changes)) row

-- ---- which changes are allowed

-- a new column's name is none of those of its sort, and there is room for it
abbrev pub new_name_checked : List ℕ → List (List ℕ) → Result (Unit {0}) ChangeError
new_name_checked name names = do
  refuse_if (has_name name names) no.NameTwice
  refuse_if (nat_le max_columns (length names)) no.TooManyColumns

-- refused by the first view that uses a value column
abbrev pub refuse_used : Option View → Result (Unit {0}) ChangeError
refuse_used None = Ok tt
refuse_used (Some view) = Err (no.InView view.name)

-- a value column that is among these names, that none of the views uses, and that isn't the last one
abbrev pub drop_rule : List (List ℕ) → List View → List ℕ → Result (Unit {0}) ChangeError
drop_rule names views name = do
  refuse_unless (has_name name names) no.NoColumn
  refuse_used (find (λ (v : View). has_name name v.values) views)
  refuse_if (length names == 1) no.LastValue

-- a table's value column may go
abbrev pub drop_checked : Lineage → List ℕ → Result (Unit {0}) ChangeError
drop_checked l name = drop_rule (value_names (columns_of l)) l.views name

-- a value column that may join those of these names, with its default
abbrev pub added_value_checked : List (List ℕ) → ValueColumn → ℤ → Result (Unit {0}) ChangeError
added_value_checked names column default = do
  new_name_checked column.name names
  refuse_unless (is_default column.agg default) no.BadDefault

-- a key column that may join those of these names, with its default
abbrev pub added_key_checked : List (List ℕ) → KeyColumn → KeyValue → Result (Unit {0}) ChangeError
added_key_checked names column default = do
  new_name_checked column.name names
  refuse_unless (is_of_kind column.kind default) no.BadDefault

-- The rules of a change in their order, but for the number of changes.
abbrev pub rule_checked : Lineage → Change → Result (Unit {0}) ChangeError
rule_checked l (AddValue column default) = added_value_checked (value_names (columns_of l)) column default
rule_checked l (DropValue name) = drop_checked l name
rule_checked l (AddKey column default) = added_key_checked (key_names (columns_of l)) column default

-- The rules of a change in their order, the number of changes last.
abbrev pub change_checked : Lineage → Change → Result (Unit {0}) ChangeError
change_checked l change = do
  rule_checked l change
  refuse_if (nat_le max_changes (epoch_of l)) no.EpochsFull

-- the lineage with a change more
abbrev pub with_change : Lineage → Change → Lineage
with_change l change = record l { changes = l.changes ++ change ∷ [] }
