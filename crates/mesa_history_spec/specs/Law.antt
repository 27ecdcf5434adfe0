-- The fold law: after any history each content is the fold of what stood at the start and of the batches accepted since, each carried to the present.
use Rattle.std.specs.Prelude.{◌≡◌, ℕ, ◌-◌, ◌<◌, ◌≤◌, ◌==◌, List, [], ◌∷◌, ◌++◌, map, nat_lt, if◌then◌else◌, Option, Some, None, slice_get, Result, Ok, Err}
use Rattle.mesa_script.specs.mesa_columns.declared.rows.Row.{Row}
use Rattle.mesa_script.specs.mesa_columns.Columns.{aggs_of}
use Rattle.mesa_script.specs.mesa_schema.Changes.{columns_of, epoch_of}
use Rattle.mesa_script.specs.mesa_fold.Folded.{folded}
use Rattle.mesa_script.specs.mesa_schema.Recasts.{Recast}
use Rattle.mesa_script.specs.mesa_batch.declared.words.BatchError.{BatchError}
use Rattle.mesa_script.specs.mesa_batch.Batch.{Placed, batch_of, rows_for}
use Rattle.mesa_script.specs.mesa_model.declared.commands.Command.{Command}
use Rattle.mesa_script.specs.mesa_model.declared.commands.Command.TheVariants as command
use Rattle.mesa_script.specs.mesa_model.declared.commands.Script.{Script}
use Rattle.mesa_script.specs.mesa_model.declared.entries.Entry.{Entry}
use Rattle.mesa_script.specs.mesa_model.declared.replies.Reply.{Reply}
use Rattle.mesa_script.specs.mesa_model.declared.replies.Reply.TheVariants as reply
use Rattle.mesa_script.specs.mesa_model.Warehouse.{Table, Store, Warehouse, content_at, table_at}
use Rattle.mesa_script.specs.mesa_model.Load.{tables_named}
use Rattle.mesa_script.specs.mesa_model.WellFormed.{IsWellFormed}
use Rattle.mesa_history_spec.specs.Machine.{Errand, Merges, Recasts}
use Rattle.mesa_history_spec.specs.Run.{State, Stage, Granted, Renewed, Told, Run, command_of, place_of, begins}
use Rattle.mesa_history_spec.specs.Replay.{told_by, go, runs}
use Rattle.mesa_history_spec.specs.Sources.{Source, Written, rows_now, source_recast, sources_from, sources_to, written_recast}

-- ---- what a turn writes

-- a batch, and no rows where it is refused
abbrev pub batch_or_none : Result (List Placed) BatchError → List Placed
batch_or_none (Ok batch) = batch
batch_or_none (Err refusal) = []

-- the batch of a load's rows
abbrev pub loaded_rows : Store → Command → List Placed
loaded_rows s (command.Load rows) = batch_or_none (batch_of (tables_named s) rows)
loaded_rows s c = []

-- what a batch that makes a version writes of the table of a number: its rows of the table, in the epoch that the table has
abbrev pub batch_written : Store → ℕ → List Placed → ℕ → Written
batch_written s version batch number = record { version = version; source = record { epoch = epoch_of (table_at s number).lineage; rows = rows_for number batch } }

-- A table that is recast, by its number, and the columns that it takes.
pub record Recasting : Type 0 where
  pub table : ℕ
  pub recast : Recast

-- the recast that a claim is for
abbrev pub recast_for : ℕ → Errand → Option Recasting
recast_for table (Merges work) = None
recast_for table (Recasts epoch r) = Some (record { table = table; recast = r })

-- the recast that a session's command has come to
abbrev pub recast_at : Stage → Option Recasting
recast_at (Granted claim) = recast_for claim.table claim.errand
recast_at (Renewed claim) = recast_for claim.table claim.errand
recast_at stage = None

-- what a turn does to the rows that are written: it accepts a batch as a version, it recasts a table, or it leaves them
pub data Writing : Type 0 where
  Accepts : ℕ → List Placed → Writing
  Regroups : ℕ → Recast → Writing
  Leaves : Writing

-- a recast, where one is done
abbrev pub regroups : Option Recasting → Writing
regroups None = Leaves
regroups (Some r) = Regroups r.table r.recast

-- what a command's reply says of it
abbrev pub writing_as : Store → Command → Stage → Reply → Writing
writing_as s c stage (reply.Loaded version rows) = Accepts version (loaded_rows s c)
writing_as s c stage (reply.Recast table epoch) = regroups (recast_at stage)
writing_as s c stage r = Leaves

-- the same of a command and a reply that may not be there
abbrev pub writing_if_told : Store → Option Command → Stage → Option Told → Writing
writing_if_told s None stage told = Leaves
writing_if_told s (Some c) stage None = Leaves
writing_if_told s (Some c) stage (Some told) = writing_as s c stage told.reply

-- what an entry's turn does to the rows that are written
abbrev pub writing_by : Script → Run → Entry → Writing
writing_by script r e = writing_if_told r.state.warehouse.store (command_of script e) (place_of r e.session).stage (told_by script r e)

-- ---- what stands written

-- rows of the table of a number, carried through a turn: a recast of the table groups them
abbrev pub carried_through : Store → Writing → ℕ → Source → Source
carried_through s (Accepts version batch) number source = source
carried_through s (Regroups table r) number source = if table == number then source_recast (table_at s number).lineage r source else source
carried_through s Leaves number source = source

-- what stands written of the table of a number behind a turn: all that stood, carried, and the rows of a batch that was accepted
abbrev pub written_through : Store → Writing → ℕ → List Written → List Written
written_through s (Accepts version batch) number written = written ++ batch_written s version batch number ∷ []
written_through s (Regroups table r) number written = if table == number then map (written_recast (table_at s number).lineage r) written else written
written_through s Leaves number written = written

-- rows of the table of a number, carried through a history
unfoldable pub carried_in : Script → Run → List Entry → ℕ → Source → Source
carried_in script r [] number source = source
carried_in script r (e ∷ h) number source = carried_in script (go script r e) h number (carried_through r.state.warehouse.store (writing_by script r e) number source)

-- what stands written of the table of a number behind a history: all that stood, carried, and the batches accepted since, each carried too
unfoldable pub written_in : Script → Run → List Entry → ℕ → List Written → List Written
written_in script r [] number written = written
written_in script r (e ∷ h) number written = written_in script (go script r e) h number (written_through r.state.warehouse.store (writing_by script r e) number written)

-- ---- the law

-- a table's content at a version of the start; no rows where the table or the version wasn't there
abbrev pub source_then : ℕ → Option Table → Source
source_then version None = record { epoch = 0; rows = [] }
source_then version (Some old) = record { epoch = epoch_of old.lineage; rows = content_at old version }

-- the content that the table of a number had at a version of the start
abbrev pub start_source : Warehouse → ℕ → ℕ → Source
start_source start number version = source_then version (slice_get start.store.tables number)

-- what the start wrote: its newest content
abbrev pub start_written : Warehouse → ℕ → Written
start_written start number = record { version = start.next - 1; source = start_source start number (start.next - 1) }

-- what the law says of a content, by what is carried: at a version of the start the start's content, at a later one the fold of what was written up to it
abbrev pub carried_content : Warehouse → Table → (ℕ → Source) → List Written → ℕ → List Row
carried_content start t early written version =
    if nat_lt version start.next then rows_now t.lineage (early version)
    else folded (aggs_of (columns_of t.lineage)) (map (rows_now t.lineage) (sources_to version written))

-- what the law says of the content of the table of a number after a history: its rows at the start and in the batches accepted since are carried
abbrev pub law_content : Script → State → List Entry → ℕ → Table → ℕ → List Row
law_content script start h number t version =
    carried_content start.warehouse t (λ v. carried_in script (begins start) h number (start_source start.warehouse number v))
    (written_in script (begins start) h number (start_written start.warehouse number ∷ [])) version

-- A content of the run is what a law says: the table of a number, at a version that can be queried.
abbrev pub HoldsIn : (ℕ → Table → ℕ → List Row) → Warehouse → Type 0
HoldsIn law now = (number : ℕ) (t : Table) (version : ℕ) → slice_get now.store.tables number ≡ Some t → t.oldest ≤ version → version < now.next → content_at t version ≡ law number t version

-- The fold law: from a well-formed start every history leaves the contents that the law says.
abbrev pub FoldLaw : Type 0
FoldLaw = (script : Script) (start : State) (h : List Entry) → IsWellFormed start.warehouse → HoldsIn (law_content script start h) (runs script (begins start) h).state.warehouse

-- ---- ranges

-- the epoch with which the columns of the table of a number begin
abbrev pub begun_at : Warehouse → ℕ → ℕ
begun_at w number = (table_at w.store number).lineage.begins

-- RangesStay: as long as a table isn't recast, what is written of it at versions that are there stays as it is.
abbrev pub RangesStay : Type 0
RangesStay = (script : Script) (r : Run) (h : List Entry) (number from to : ℕ) (written : List Written) → to < r.state.warehouse.next → begun_at (runs script r h).state.warehouse number ≡ begun_at r.state.warehouse number
    → sources_from from to (written_in script r h number written) ≡ sources_from from to written
