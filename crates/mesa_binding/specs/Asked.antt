-- The columns that a table or a view is asked to have, and the change of a schema that is asked.
use Rattle.std.specs.Prelude.{List, length, map, nat_le, Result, Ok}
use Rattle.mesa_list.specs.Checks.{◌>>=◌, ◌>>◌, refuse_if, refuse_unless, refused_as}
use Rattle.mesa_model.specs.mesa_columns.declared.columns.KeyColumn.{KeyColumn}
use Rattle.mesa_model.specs.mesa_columns.declared.columns.ValueColumn.{ValueColumn}
use Rattle.mesa_model.specs.mesa_columns.Columns.{Columns}
use Rattle.mesa_model.specs.mesa_columns.Schema.{schema_checked}
use Rattle.mesa_model.specs.mesa_columns.declared.changes.Change.{Change}
use Rattle.mesa_schema.specs.Changes.{Lineage, change_checked, columns_of}
use Rattle.mesa_schema.specs.Views.{max_views, view_checked}
use Rattle.mesa_model.specs.declared.commands.ChangeWords.{ChangeWords}
use Rattle.mesa_model.specs.declared.commands.KeyWords.{KeyWords}
use Rattle.mesa_model.specs.declared.commands.ValueWords.{ValueWords}
use Rattle.mesa_model.specs.declared.commands.ViewWords.{ViewWords}
use Rattle.mesa_model.specs.declared.replies.Refusal.{Refusal}
use Rattle.mesa_model.specs.declared.replies.Refusal.TheVariants as no
use Rattle.mesa_model.specs.declared.replies.SchemaFault.TheVariants as fault
use Rattle.mesa_model.specs.Refusals.{bad_schema, change_refusal, schema_refusal, view_refusal}
use Rattle.mesa_model.specs.Tables.{change_asked, changed_name, names_are_good}

-- the key columns that are asked
abbrev pub keys_asked : List KeyWords → List KeyColumn
keys_asked words = map (λ (c : KeyWords). record { name = c.name; kind = c.kind }) words

-- the value columns that are asked
abbrev pub values_asked : List ValueWords → List ValueColumn
values_asked words = map (λ (c : ValueWords). record { name = c.name; agg = c.agg }) words

-- The columns' names keep the rule of names, and the columns make a schema; or the first refusal.
abbrev pub columns_checked : Columns → Result (Unit {0}) Refusal
columns_checked s = do
  refuse_unless (names_are_good s) (bad_schema fault.BadName)
  refused_as schema_refusal (schema_checked s)

-- A table with these columns and views may have the view that is asked; or the first refusal, the number of views last.
abbrev pub more_views_checked : Lineage → ViewWords → Result (Unit {0}) Refusal
more_views_checked l words = do
  refused_as view_refusal (view_checked (columns_of l) words.keys words.values)
  refuse_if (nat_le max_views (length l.views)) (no.TablesFull max_views)

-- The change that is asked of a table with these columns and views, where the rules allow it; or the first refusal.
abbrev pub change_allowed : Lineage → ChangeWords → Result Change Refusal
change_allowed l words = do
  c ← change_asked (columns_of l) words
  refused_as (change_refusal (changed_name c)) (change_checked l c)
  Ok c
