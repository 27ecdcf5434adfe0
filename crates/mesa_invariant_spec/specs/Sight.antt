-- What a load sees of the tables, and how many turns changed it.
use Rattle.std.specs.Prelude.{ℕ, List, Bool, true, false, Option, None, Some}
use Rattle.mesa_history_spec.specs.mesa_batch.Batch.{Named}
use Rattle.mesa_history_spec.specs.mesa_model.declared.commands.Script.{Script}
use Rattle.mesa_history_spec.specs.mesa_model.declared.entries.Entry.{Entry}
use Rattle.mesa_history_spec.specs.mesa_model.declared.replies.Reply.{Reply}
use Rattle.mesa_history_spec.specs.mesa_model.declared.replies.Reply.TheVariants as reply
use Rattle.mesa_history_spec.specs.mesa_model.Load.{tables_named}
use Rattle.mesa_history_spec.specs.Run.{Told, Run}
use Rattle.mesa_history_spec.specs.Replay.{told_by}
use Rattle.mesa_history_spec.specs.Counting.{count_in}

-- a reply that says that a table, a view or a table's columns were made or changed
abbrev pub is_of_schemas : Reply → Bool
is_of_schemas (reply.Table name) = true
is_of_schemas (reply.View name) = true
is_of_schemas (reply.Altered table epoch) = true
is_of_schemas (reply.Recast table epoch) = true
is_of_schemas r = false

-- whether what a turn prints, if anything, is such a reply
abbrev pub tells_of_schemas : Option Told → Bool
tells_of_schemas None = false
tells_of_schemas (Some told) = is_of_schemas told.reply

-- whether an entry's turn made or changed a table, a view or columns
abbrev pub changes_schemas : Script → Run → Entry → Bool
changes_schemas script r e = tells_of_schemas (told_by script r e)

-- how many entries of a history did
abbrev pub schema_changes : Script → Run → List Entry → ℕ
schema_changes script r h = count_in (changes_schemas script) script r h

-- what a load sees after some turns: the names and columns of the tables
abbrev pub tables_seen : Run → List Named
tables_seen r = tables_named r.state.warehouse.store
