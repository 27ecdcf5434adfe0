-- What files that are handed out tell.
use Rattle.std.specs.Prelude.{◌≡◌, ℕ, ◌<◌, List, Option, None, length, Result, Ok, Err}
use Rattle.std.specs.List.{AllByRecursion}
use Rattle.mesa_recast_turns.specs.mesa_compact.Bounded.{AreBounded}
use Rattle.mesa_recast_turns.specs.mesa_history_spec.Claims.{HasClaim}
use Rattle.mesa_recast_turns.specs.mesa_history_spec.Machine.{Claim, Merges}
use Rattle.mesa_recast_turns.specs.mesa_history_spec.Run.{State}
use Rattle.mesa_engine.specs.mesa_store_spec.Moves.{last_of}
use Rattle.mesa_engine.specs.EngineState.{EngineState}
use Rattle.mesa_engine.specs.Vault.{Origin}
use Rattle.mesa_model.specs.declared.commands.Script.{Script}
use Rattle.mesa_model.specs.declared.entries.Entry.{Entry}
use Rattle.mesa_model.specs.Query.{Answer}
use Rattle.mesa_model.specs.Warehouse.{Store, max_tables}
use Rattle.mesa_recast_turns.specs.mesa_invariant_spec.Invariant.{run_at}
use Rattle.mesa_engine.specs.Written.{written_at}
use Rattle.mesa_core.specs.Known.{AllAreBounded, AllHaveRange, AllHaveRanges, IsKnownOf, lineage_in}
use Rattle.mesa_recast_turns.specs.mesa_file_records.Grown.{HasBecome}
use Rattle.mesa_recast_turns.specs.Rested.{HasRested}
use Rattle.mesa_recast_turns.specs.mesa_schema.Changes.{columns_of, epoch_of}
use Rattle.mesa_recast_turns.specs.mesa_schema.Lineages.{IsLineage}
use Rattle.mesa_recast_turns.specs.mesa_history_spec.Rows.{Rows, no_rows}
use Rattle.mesa_recast_turns.specs.mesa_read_turns.Opening.{IsHeaded}
use Rattle.mesa_recast_turns.specs.mesa_pick_files.Told.{TellAnswer}
use Rattle.mesa_core.specs.Pins.{KnownPin}
use Rattle.mesa_recast_turns.specs.mesa_copy.Copying.{KnownRange}
use Rattle.mesa_core.specs.Recasts.{KnownRecast, known_recast}
use Rattle.mesa_core.specs.Works.{KnownTask}
use Rattle.mesa_open_files.specs.Recasts.{IsRecastTask}
use Rattle.mesa_open_files.specs.declared.recasting.Recast.{Recast}

-- What a query's files tell of its answer: its version and its heading on every store, and all of it where the store was sound.
abbrev pub Tells : (Rows → Type 0) → KnownPin → Rows → Answer → Type 0
Tells sound k w answer = IsHeaded k.query k.version answer × (sound w → TellAnswer k.query k.version k.view k.files k.own answer)

-- the tables after a history
abbrev pub store_after : Script → (Rows → State) → List Entry → Store
store_after script start h = (run_at script (start no_rows) h).state.warehouse.store

-- the claim of a work, by what is known of its task
abbrev pub claim_known : KnownTask → Claim
claim_known k = record { table = k.table; lease = k.lease; errand = Merges k.work }

-- What holds of a work's files by the history at the end of its first turn: its table was there, its columns and views followed the rules, and they are files of it; its claim holds; its range ends before the version that was to come next, whatever rows the files had when the run began; and on a sound store none of them was damaged, no sum over them leaves its type, and they have all that was written in it.
pub record IsGranted {R : Type 0} (read : R → Option (List ℕ)) (script : Script) (start : Rows → State) (origin : Rows → Origin) (sound : Rows → Type 0) (past : List Entry) (k : KnownTask) : Type 0 where
  pub low : k.table < max_tables
  pub there : k.table < length (store_after script start past).tables
  pub lineage : IsLineage (lineage_in (store_after script start past) k.table)
  pub known : IsKnownOf (lineage_in (store_after script start past) k.table) k
  pub claim : HasClaim (run_at script (start no_rows) past).state (claim_known k) k.work
  pub next : (w : Rows) → last_of k.work < (run_at script (start w) past).state.warehouse.next
  pub whole : (w : Rows) → sound w → k.damage ≡ None
  pub bounded : (w : Rows) → sound w → AreBounded (columns_of (lineage_in (store_after script start past) k.table)) k.files
  pub range : (w : Rows) → sound w → AllHaveRange read (lineage_in (store_after script start past) k.table) k (written_at script (start w) (origin w) past k.table)

-- ---- recasts

-- What holds of a recast's files by the history at the end of its first turn: its table was there, its columns and views followed the rules, and they are files of it; its ranges end before the version that was to come next, whatever rows the files had when the run began; and on a sound store none of them was damaged, no sum over one of them leaves its type, and they have all that was written in their ranges.
pub record IsRecastGranted {R : Type 0} (read : R → Option (List ℕ)) (script : Script) (start : Rows → State) (origin : Rows → Origin) (sound : Rows → Type 0) (past : List Entry) (k : KnownRecast) : Type 0 where
  pub low : k.table < max_tables
  pub there : k.table < length (store_after script start past).tables
  pub lineage : IsLineage (lineage_in (store_after script start past) k.table)
  pub table : k.lineage ≡ lineage_in (store_after script start past) k.table
  pub next : (w : Rows) → AllByRecursion (λ (x : KnownRange). x.to < (run_at script (start w) past).state.warehouse.next) k.ranges
  pub whole : (w : Rows) → sound w → k.damage ≡ None
  pub bounded : (w : Rows) → sound w → AllAreBounded read k
  pub ranges : (w : Rows) → sound w → AllHaveRanges read k (written_at script (start w) (origin w) past k.table)

-- What holds of them by a later history: its table has become what it is; and on a sound store none of them was damaged, no sum over one of them leaves its type, and while the table's epoch is the recast's they have all that stands written in their ranges.
pub record IsRecastHeld {R : Type 0} (read : R → Option (List ℕ)) (script : Script) (start : Rows → State) (origin : Rows → Origin) (sound : Rows → Type 0) (h : List Entry) (k : KnownRecast) : Type 0 where
  pub low : k.table < max_tables
  pub there : k.table < length (store_after script start h).tables
  pub become : HasBecome k.lineage (lineage_in (store_after script start h) k.table)
  pub whole : (w : Rows) → sound w → k.damage ≡ None
  pub bounded : (w : Rows) → sound w → AllAreBounded read k
  pub ranges : (w : Rows) → sound w → epoch_of (lineage_in (store_after script start h) k.table) ≡ k.epoch → AllHaveRanges read k (written_at script (start w) (origin w) h k.table)

-- Each recast of which this is known has all ranges of its table.
abbrev pub AllAreRested : {R : Type 0} → (R → Option (List ℕ)) → EngineState → KnownRecast → Type 0
AllAreRested {R = R} read l k = (t : Recast R) → known_recast read t ≡ k → IsRecastTask read t → HasRested read l t

-- the recast that comes back, whatever came of it
abbrev pub rested : {R E : Type 0} → Result (Recast R) (E × Recast R) → Recast R
rested (Ok t) = t
rested (Err x) = x.1
