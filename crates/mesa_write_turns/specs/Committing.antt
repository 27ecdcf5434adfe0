-- A record that a turn writes with its files, and what it leaves of the disk and of a vault's memory.
use Rattle.std.specs.Prelude.{◌≡◌, ℕ, ◌+◌, ◌<◌, List, [], ◌∷◌, ◌++◌, length, Option, None, Some}
use Rattle.mesa_disk.specs.Files.{AreGone}
use Rattle.mesa_disk.specs.Image.{Image}
use Rattle.mesa_disk.specs.Story.{Story, Spans, Steps}
use Rattle.mesa_disk.specs.declared.area.Area.{Area}
use Rattle.mesa_engine.specs.mesa_commit.Turn.{MovesOnly}
use Rattle.mesa_engine.specs.mesa_commit.declared.trash.Dropped.{Dropped}
use Rattle.mesa_record.specs.declared.record.Record.{Record}
use Rattle.mesa_engine.specs.mesa_catalog.Lookups.{generation_of}
use Rattle.mesa_engine.specs.mesa_store_spec.Catalog.{Catalog, applied}
use Rattle.mesa_engine.specs.mesa_store_spec.Contents.{kept_of}
use Rattle.mesa_engine.specs.mesa_store_spec.Held.{IsHeld, StandsForEither as EitherOf}
use Rattle.mesa_store.specs.Store.{Writes as IsWritten}
use Rattle.mesa_file_records.specs.mesa_history_spec.Rows.{Rows}
use Rattle.mesa_engine.specs.mesa_invariant_spec.Invariant.{Passes}
use Rattle.mesa_engine.specs.EngineState.{EngineState}
use Rattle.mesa_engine.specs.Recorded.{left_by, recorded_state}
use Rattle.mesa_write_turns.specs.declared.committing.Drops.{Drops}

-- What the device work of a turn did that wrote a body, adopted files and removed others.
pub record IsWorked (story new : Story) (area : Area) (end : ℕ) (body : List ℕ) (made : List (ℕ × Option (List ℕ))) (dropped : List ℕ) : Type 0 where
  pub images : (bodies : List (List ℕ)) (c : Catalog) (rows : Rows) (r : Record) → IsWritten story area bodies end c rows r body made dropped → Spans (EitherOf (kept_of rows c) (kept_of rows (applied c r))) story new
  pub only : Steps (MovesOnly made dropped) story.told new.told
  pub passes : Passes story new

-- It was done.
pub record IsWhole (story new : Story) (area : Area) (end : ℕ) (body : List ℕ) (made : List (ℕ × Option (List ℕ))) (dropped : List ℕ) (later : ℕ) : Type 0 where
  pub holds : (bodies : List (List ℕ)) (c : Catalog) (rows : Rows) (r : Record) → IsWritten story area bodies end c rows r body made dropped → IsHeld new area (bodies ++ body ∷ []) (end + length body + 5) (applied c r) rows
  pub gone : (i : Image) → new.told ≡ Some i → AreGone dropped i
  pub ends : later ≡ end + length body + 5
  pub long : later < new.len area

-- the files that a turn lets go, if it may let any go
abbrev pub gone_in : Option Drops → List ℕ
gone_in None = []
gone_in (Some drops) = drops.gone.items

-- those that it removes
abbrev pub removed_in : Option Drops → List ℕ
removed_in None = []
removed_in (Some drops) = drops.removed.items

-- the files that wait behind it
abbrev pub trash_behind : EngineState → ℕ → Option Drops → List Dropped
trash_behind l position None = l.trash
trash_behind l position (Some drops) = left_by l position drops.gone.items

-- the state behind a record that was written in the turn at a position
abbrev pub committed_state : EngineState → ℕ → Record → Option Drops → ℕ → ℕ → EngineState
committed_state l position r drops adopted end = recorded_state l (applied l.catalogue r) (generation_of (applied l.catalogue r)) (trash_behind l position drops) l.leases adopted end
