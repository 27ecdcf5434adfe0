-- The refusals of the lower layers as replies.
use Rattle.std.specs.Prelude.{ℕ, List, Option, Some, None, Result, Ok, Err}
use Rattle.mesa_columns.specs.declared.schema.SchemaError.{SchemaError}
use Rattle.mesa_columns.specs.declared.schema.SchemaError.TheVariants as schema
use Rattle.mesa_columns.specs.declared.views.ViewError.{ViewError}
use Rattle.mesa_columns.specs.declared.views.ViewError.TheVariants as view
use Rattle.mesa_columns.specs.declared.changes.ChangeError.{ChangeError}
use Rattle.mesa_columns.specs.declared.changes.ChangeError.TheVariants as change
use Rattle.mesa_batch.specs.mesa_schema.declared.recasts.RecastError.{RecastError}
use Rattle.mesa_batch.specs.mesa_schema.declared.recasts.RecastError.TheVariants as recast
use Rattle.mesa_batch.specs.mesa_schema.Changes.{max_changes}
use Rattle.mesa_batch.specs.declared.words.BatchError.{BatchError}
use Rattle.mesa_batch.specs.declared.words.BatchError.TheVariants as batch
use Rattle.mesa_filter.specs.declared.words.QueryError.{QueryError}
use Rattle.mesa_filter.specs.declared.words.QueryError.TheVariants as query
use Rattle.mesa_model.specs.declared.replies.SchemaFault.{SchemaFault}
use Rattle.mesa_model.specs.declared.replies.SchemaFault.TheVariants as fault
use Rattle.mesa_model.specs.declared.replies.Refusal.{Refusal}
use Rattle.mesa_model.specs.declared.replies.Refusal.TheVariants as no

-- a schema is refused for this
abbrev pub bad_schema : SchemaFault → Refusal
bad_schema reason = no.BadSchema reason

-- no such table or view
abbrev pub no_such_table : Refusal
no_such_table = no.NoTable None

-- a closed warehouse refuses everything, and says where it closed
abbrev pub refuse_closed : Option ℕ → Result (Unit {0}) Refusal
refuse_closed None = Ok tt
refuse_closed (Some position) = Err (no.Closed position)

-- why the columns of a table are refused
abbrev pub schema_refusal : SchemaError → Refusal
schema_refusal schema.NoKey = bad_schema fault.NoKey
schema_refusal schema.NoValue = bad_schema fault.NoValue
schema_refusal schema.TooManyColumns = bad_schema fault.TooManyColumns
schema_refusal (schema.NameTwice name) = bad_schema fault.NameTwice
schema_refusal schema.Memory = no.Memory

-- why the columns of a view are refused
abbrev pub view_refusal : ViewError → Refusal
view_refusal view.NoColumn = no.NoColumn
view_refusal view.NoKey = bad_schema fault.NoKey
view_refusal view.NoValue = bad_schema fault.NoValue
view_refusal view.NameTwice = bad_schema fault.NameTwice
view_refusal (view.ReplaceInView column) = no.ReplaceGroup column
view_refusal view.Memory = no.Memory

-- why a change of the column of this name is refused
abbrev pub change_refusal : List ℕ → ChangeError → Refusal
change_refusal name change.NameTwice = bad_schema fault.NameTwice
change_refusal name change.NoColumn = no.NoColumn
change_refusal name change.BadDefault = no.BadDefault name
change_refusal name change.LastValue = bad_schema fault.LastValue
change_refusal name (change.InView view) = no.InView view
change_refusal name change.TooManyColumns = bad_schema fault.TooManyColumns
change_refusal name change.EpochsFull = no.EpochsFull max_changes
change_refusal name change.Memory = no.Memory

-- why a recast is refused
abbrev pub recast_refusal : RecastError → Refusal
recast_refusal recast.NoColumn = no.NoColumn
recast_refusal recast.NoKey = bad_schema fault.NoKey
recast_refusal recast.NoValue = bad_schema fault.NoValue
recast_refusal recast.NameTwice = bad_schema fault.NameTwice
recast_refusal (recast.ReplaceGroup column) = no.ReplaceGroup column
recast_refusal (recast.InView view) = no.InView view
recast_refusal recast.EpochsFull = no.EpochsFull max_changes
recast_refusal recast.Memory = no.Memory

-- why a load's rows are refused
abbrev pub batch_refusal : BatchError → Refusal
batch_refusal (batch.NoTable row) = no.NoTable (Some row)
batch_refusal (batch.BadRow row column) = no.BadRow row column
batch_refusal (batch.DuplicateKey first second) = no.DuplicateKey first second
batch_refusal batch.Memory = no.Memory

-- why what a query asks is refused
abbrev pub query_refusal : QueryError → Refusal
query_refusal query.NoColumn = no.NoColumn
query_refusal (query.ReplaceGroup column) = no.ReplaceGroup column
query_refusal (query.BadFilter term) = no.BadFilter term
query_refusal query.BadResume = no.BadResume
query_refusal query.Memory = no.Memory
