-- Making tables and views, changing schemas, and recasting tables.
use Rattle.std.specs.Prelude.{ℕ, ◌+◌, ◌-◌, List, [], ◌∷◌, ◌++◌, map, length, replicate, Bool, ◌&&◌, nat_le, Result, Ok}
use Rattle.std.specs.List.{list_all}
use Rattle.std.specs.Option.{ok_or}
use Rattle.mesa_batch.specs.mesa_list.Checks.{◌>>=◌, ◌>>◌, refuse_if, refuse_unless, refused_as}
use Rattle.mesa_columns.specs.declared.changes.Change.{Change}
use Rattle.mesa_columns.specs.declared.changes.Change.TheVariants as change
use Rattle.mesa_columns.specs.Names.{is_name}
use Rattle.mesa_columns.specs.Numbers.{signed_of, key_value_of}
use Rattle.mesa_columns.specs.Columns.{Columns, key_names, value_names, aggs_of}
use Rattle.mesa_columns.specs.Schema.{schema_checked}
use Rattle.mesa_columns.specs.Changes.{lifted_once}
use Rattle.mesa_batch.specs.mesa_schema.Changes.{columns_of, epoch_of, with_change, new_name_checked, change_checked}
use Rattle.mesa_batch.specs.mesa_schema.Views.{max_views, view_checked, with_view}
use Rattle.mesa_batch.specs.mesa_schema.Recasts.{Recast, recast_checked, recast_lineage, recast_rows}
use Rattle.mesa_batch.specs.Totals.{sums_in, totals_after, totals_recast}
use Rattle.mesa_model.specs.declared.commands.KeyWords.{KeyWords}
use Rattle.mesa_model.specs.declared.commands.ValueWords.{ValueWords}
use Rattle.mesa_model.specs.declared.commands.TableWords.{TableWords}
use Rattle.mesa_model.specs.declared.commands.ViewWords.{ViewWords}
use Rattle.mesa_model.specs.declared.commands.AlterWords.{AlterWords}
use Rattle.mesa_model.specs.declared.commands.ChangeWords.{ChangeWords}
use Rattle.mesa_model.specs.declared.commands.RecastWords.{RecastWords}
use Rattle.mesa_model.specs.declared.commands.ChangeWords.TheVariants as words
use Rattle.mesa_model.specs.declared.replies.SchemaFault.TheVariants as fault
use Rattle.mesa_model.specs.declared.replies.Refusal.{Refusal}
use Rattle.mesa_model.specs.declared.replies.Refusal.TheVariants as no
use Rattle.mesa_model.specs.declared.replies.Reply.{Reply}
use Rattle.mesa_model.specs.declared.replies.Reply.TheVariants as reply
use Rattle.mesa_model.specs.Warehouse.{Table, Warehouse, max_tables, table_at, with_tables, with_table}
use Rattle.mesa_model.specs.Relations.{table_number, is_taken}
use Rattle.mesa_model.specs.Refusals.{bad_schema, no_such_table, refuse_closed, schema_refusal, view_refusal, change_refusal, recast_refusal}

-- ---- tables

-- the columns of a table that is to be made
abbrev pub columns_asked : TableWords → Columns
columns_asked t = record {
  keys = map (λ (c : KeyWords). record { name = c.name; kind = c.kind }) t.keys;
  values = map (λ (c : ValueWords). record { name = c.name; agg = c.agg }) t.values;
}

-- every column's name keeps the rule of names
abbrev pub names_are_good : Columns → Bool
names_are_good s = list_all is_name (key_names s) && list_all is_name (value_names s)

-- a table without rows at each version from the floor on
abbrev pub new_table : Warehouse → List ℕ → Columns → Table
new_table w name s = record {
  name = name;
  lineage = record { begins = 0; first = s; changes = []; views = [] };
  totals = replicate (sums_in (aggs_of s)) 0;
  oldest = w.store.floor;
  contents = replicate (w.next - w.store.floor) [];
}

-- The warehouse with a table more, or the first refusal.
abbrev pub make_table : Warehouse → TableWords → Result (Warehouse × Reply) Refusal
make_table w words = do
  refuse_closed w.closed
  refuse_unless (is_name words.table) (bad_schema fault.BadName)
  refuse_if (is_taken w.store words.table) no.TableExists
  refuse_unless (names_are_good (columns_asked words)) (bad_schema fault.BadName)
  refused_as schema_refusal (schema_checked (columns_asked words))
  refuse_if (nat_le max_tables (length w.store.tables)) (no.TablesFull max_tables)
  Ok (with_tables w (w.store.tables ++ new_table w words.table (columns_asked words) ∷ []), reply.Table words.table)

-- ---- views

-- a table with a view more
abbrev table_with_view : Table → ViewWords → Table
table_with_view t words = record t { lineage = with_view t.lineage (record { name = words.view; keys = words.keys; values = words.values }) }

-- the rules of a view of this table, the number of views last
abbrev pub view_of_table_checked : Table → ViewWords → Result (Unit {0}) Refusal
view_of_table_checked t words = do
  refused_as view_refusal (view_checked (columns_of t.lineage) words.keys words.values)
  refuse_if (nat_le max_views (length t.lineage.views)) (no.TablesFull max_views)

-- The warehouse with a view more, or the first refusal.
abbrev pub make_view : Warehouse → ViewWords → Result (Warehouse × Reply) Refusal
make_view w words = do
  refuse_closed w.closed
  refuse_unless (is_name words.view) (bad_schema fault.BadName)
  refuse_if (is_taken w.store words.view) no.TableExists
  number ← ok_or (table_number w.store words.table) no_such_table
  view_of_table_checked (table_at w.store number) words
  Ok (with_table w number (table_with_view (table_at w.store number) words), reply.View words.view)

-- ---- changes of a schema

-- the name of a new column keeps the rule of names, is none of those of its sort, and there is room for it
abbrev pub new_column_checked : List ℕ → List (List ℕ) → Result (Unit {0}) Refusal
new_column_checked name names = do
  refuse_unless (is_name name) (bad_schema fault.BadName)
  refused_as (change_refusal name) (new_name_checked name names)

-- the change that the words ask for: a new column is looked at before its default is read
abbrev pub change_asked : Columns → ChangeWords → Result Change Refusal
change_asked s (words.AddValue column default) = do
  new_column_checked column.name (value_names s)
  value ← ok_or (signed_of default) (no.BadDefault column.name)
  Ok (change.AddValue (record { name = column.name; agg = column.agg }) value)
change_asked s (words.DropValue name) = Ok (change.DropValue name)
change_asked s (words.AddKey column default) = do
  new_column_checked column.name (key_names s)
  value ← ok_or (key_value_of column.kind default) (no.BadDefault column.name)
  Ok (change.AddKey (record { name = column.name; kind = column.kind }) value)

-- the name of the column that a change adds or drops
abbrev pub changed_name : Change → List ℕ
changed_name (change.AddValue column default) = column.name
changed_name (change.DropValue name) = name
changed_name (change.AddKey column default) = column.name

-- a table after a change of its schema: every content is lifted
abbrev pub table_changed : Table → Change → Table
table_changed t c = record t {
  lineage = with_change t.lineage c;
  totals = totals_after (columns_of t.lineage) c t.totals;
  contents = map (map (lifted_once (columns_of t.lineage) c)) t.contents;
}

-- The warehouse with a table's schema changed, or the first refusal.
abbrev pub alter_table : Warehouse → AlterWords → Result (Warehouse × Reply) Refusal
alter_table w words = do
  refuse_closed w.closed
  number ← ok_or (table_number w.store words.table) no_such_table
  c ← change_asked (columns_of (table_at w.store number).lineage) words.change
  refused_as (change_refusal (changed_name c)) (change_checked (table_at w.store number).lineage c)
  Ok (with_table w number (table_changed (table_at w.store number) c), reply.Altered words.table (epoch_of (table_at w.store number).lineage + 1))

-- ---- recasts

-- the columns that a recast's words ask for
abbrev pub recast_asked : RecastWords → Recast
recast_asked words = record { keys = words.keys; values = words.values }

-- RecastStep of a table: the schema is these columns, the epoch rises by 1 and the changes start anew; each content is grouped by them; totals of kept sum columns stay, and so do the views.
abbrev pub table_recast : Table → Recast → Table
table_recast t r = record t {
  lineage = recast_lineage t.lineage r;
  totals = totals_recast (columns_of t.lineage) r t.totals;
  contents = map (recast_rows (columns_of t.lineage) r) t.contents;
}

-- the warehouse with the table of a number recast
abbrev pub with_recast : Warehouse → ℕ → Recast → Warehouse
with_recast w number r = with_table w number (table_recast (table_at w.store number) r)

-- the reply to a recast of a table: its name, and the epoch that begins
abbrev pub recast_reply : Table → Reply
recast_reply t = reply.Recast t.name (epoch_of t.lineage + 1)

-- The warehouse with a table recast, or the first refusal.
abbrev pub recast_table : Warehouse → RecastWords → Result (Warehouse × Reply) Refusal
recast_table w words = do
  refuse_closed w.closed
  number ← ok_or (table_number w.store words.table) no_such_table
  refused_as recast_refusal (recast_checked (table_at w.store number).lineage (recast_asked words))
  Ok (with_recast w number (recast_asked words), recast_reply (table_at w.store number))
