-- What a refusal tells.
use Rattle.std.specs.Prelude.{◌≡◌, ℕ, List, Result, Err, ⊤}
use Rattle.mesa_model.specs.mesa_batch.declared.words.BatchError.{BatchError}
use Rattle.mesa_model.specs.mesa_batch.declared.words.BatchError.TheVariants as batch
use Rattle.mesa_model.specs.mesa_columns.declared.changes.ChangeError.{ChangeError}
use Rattle.mesa_model.specs.mesa_columns.declared.changes.ChangeError.TheVariants as change
use Rattle.mesa_model.specs.mesa_columns.declared.schema.SchemaError.{SchemaError}
use Rattle.mesa_model.specs.mesa_columns.declared.schema.SchemaError.TheVariants as schema
use Rattle.mesa_schema.specs.declared.recasts.RecastError.{RecastError}
use Rattle.mesa_schema.specs.declared.recasts.RecastError.TheVariants as recast
use Rattle.mesa_model.specs.mesa_columns.declared.views.ViewError.{ViewError}
use Rattle.mesa_model.specs.mesa_columns.declared.views.ViewError.TheVariants as view
use Rattle.mesa_model.specs.declared.replies.Refusal.{Refusal}
use Rattle.mesa_filter.specs.declared.words.QueryError.{QueryError}
use Rattle.mesa_filter.specs.declared.words.QueryError.TheVariants as query
use Rattle.mesa_model.specs.Refusals.{batch_refusal, change_refusal, query_refusal, recast_refusal, schema_refusal, view_refusal}
use Rattle.mesa_binding.specs.declared.failure.Failure.{Failure}
use Rattle.mesa_binding.specs.declared.failure.Failure.TheVariants.{Memory, Refused}

-- The refusal is the one that is due; or there was no memory.
abbrev pub IsDue : {A : Type 0} → Result A Refusal → Failure → Type 0
IsDue due (Refused refusal) = due ≡ Err refusal
IsDue due Memory = ⊤

-- why a load isn't done whose rows make no batch
abbrev pub batch_failure : BatchError → Failure
batch_failure batch.Memory = Memory
batch_failure (batch.NoTable row) = Refused (batch_refusal (batch.NoTable row))
batch_failure (batch.BadRow row column) = Refused (batch_refusal (batch.BadRow row column))
batch_failure (batch.DuplicateKey first second) = Refused (batch_refusal (batch.DuplicateKey first second))

-- why a query isn't answered whose words are refused
abbrev pub query_failure : QueryError → Failure
query_failure query.Memory = Memory
query_failure query.NoColumn = Refused (query_refusal query.NoColumn)
query_failure (query.ReplaceGroup column) = Refused (query_refusal (query.ReplaceGroup column))
query_failure (query.BadFilter term) = Refused (query_refusal (query.BadFilter term))
query_failure query.BadResume = Refused (query_refusal query.BadResume)

-- why a table isn't made whose columns make no schema
abbrev pub schema_failure : SchemaError → Failure
schema_failure schema.Memory = Memory
schema_failure schema.NoKey = Refused (schema_refusal schema.NoKey)
schema_failure schema.NoValue = Refused (schema_refusal schema.NoValue)
schema_failure schema.TooManyColumns = Refused (schema_refusal schema.TooManyColumns)
schema_failure (schema.NameTwice name) = Refused (schema_refusal (schema.NameTwice name))

-- why a view isn't made whose columns are refused
abbrev pub view_failure : ViewError → Failure
view_failure view.Memory = Memory
view_failure view.NoColumn = Refused (view_refusal view.NoColumn)
view_failure view.NoKey = Refused (view_refusal view.NoKey)
view_failure view.NoValue = Refused (view_refusal view.NoValue)
view_failure view.NameTwice = Refused (view_refusal view.NameTwice)
view_failure (view.ReplaceInView column) = Refused (view_refusal (view.ReplaceInView column))

-- why a schema isn't changed whose change of the column of this name is refused
abbrev pub change_failure : List ℕ → ChangeError → Failure
change_failure name change.Memory = Memory
change_failure name change.NameTwice = Refused (change_refusal name change.NameTwice)
change_failure name change.NoColumn = Refused (change_refusal name change.NoColumn)
change_failure name change.BadDefault = Refused (change_refusal name change.BadDefault)
change_failure name change.LastValue = Refused (change_refusal name change.LastValue)
change_failure name (change.InView view) = Refused (change_refusal name (change.InView view))
change_failure name change.TooManyColumns = Refused (change_refusal name change.TooManyColumns)
change_failure name change.EpochsFull = Refused (change_refusal name change.EpochsFull)

-- why a table isn't recast whose recast is refused
abbrev pub recast_failure : RecastError → Failure
recast_failure recast.Memory = Memory
recast_failure recast.NoColumn = Refused (recast_refusal recast.NoColumn)
recast_failure recast.NoKey = Refused (recast_refusal recast.NoKey)
recast_failure recast.NoValue = Refused (recast_refusal recast.NoValue)
recast_failure recast.NameTwice = Refused (recast_refusal recast.NameTwice)
recast_failure (recast.ReplaceGroup column) = Refused (recast_refusal (recast.ReplaceGroup column))
recast_failure (recast.InView view) = Refused (recast_refusal (recast.InView view))
recast_failure recast.EpochsFull = Refused (recast_refusal recast.EpochsFull)
