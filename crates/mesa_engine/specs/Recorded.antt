-- What a record does to a vault's memory.
use Rattle.std.specs.Prelude.{◌≡◌, ℕ, ◌+◌, ◌<◌, ◌≤◌, List, ◌++◌, map, Option, Some}
use Rattle.mesa_commit.specs.Turn.{made_ids}
use Rattle.mesa_catalog.specs.mesa_store_spec.Catalog.{Catalog}
use Rattle.mesa_catalog.specs.mesa_store_spec.Shape.{IsCatalog}
use Rattle.mesa_lease.specs.Book.{Book}
use Rattle.mesa_catalog.specs.mesa_store_spec.Countable.{AreCounted}
use Rattle.mesa_catalog.specs.mesa_store_spec.Ids.{HasOwnIds, named}
use Rattle.mesa_catalog.specs.mesa_store_spec.Recordable.{AreRecordable}
use Rattle.mesa_invariant_spec.specs.mesa_history_spec.Rows.{Rows}
use Rattle.mesa_commit.specs.declared.trash.Dropped.{Dropped}
use Rattle.mesa_commit.specs.declared.trash.Hold.{Hold}
use Rattle.mesa_commit.specs.Filed.{AreGiven, Renames, waits_after}
use Rattle.mesa_commit.specs.Holding.{Among, freed, ids_of, kept}
use Rattle.mesa_engine.specs.EngineState.{HeldPin, OpenQuery, EngineState, first_id, next_id, most_files}

abbrev pub hold_of_pin : HeldPin → Hold
hold_of_pin p = p.hold

abbrev pub hold_of_query : OpenQuery → Hold
hold_of_query q = q.hold

-- all holds of a vault, as its code has them
abbrev pub holds_in : EngineState → List Hold
holds_in l = map hold_of_pin l.pins ++ map hold_of_query l.queries

-- the files that wait once a turn at a position dropped more
abbrev pub waiting : EngineState → ℕ → List ℕ → List Dropped
waiting l position gone = waits_after position l.trash gone

-- those of them that the swap of a work removes, since no hold is on them
abbrev pub removed_by : EngineState → ℕ → List ℕ → List ℕ
removed_by l position gone = ids_of (freed (holds_in l) (waiting l position gone))

-- those that it leaves waiting
abbrev pub left_by : EngineState → ℕ → List ℕ → List Dropped
left_by l position gone = kept (holds_in l) (waiting l position gone)

-- A turn brings files under the next ids, and no more of them than a turn may.
pub record Adopts (l : EngineState) (made : List (ℕ × Option (List ℕ))) (adopted : ℕ) : Type 0 where
  pub given : AreGiven (next_id l) (first_id l.catalogue.run + adopted) made
  pub more : l.adopted ≤ adopted
  pub few : adopted ≤ l.adopted + most_files

-- A record makes this catalogue of a vault's: it names the files that are brought and no more those that are gone, and the rows of files that were there before stay.
pub record IsRecorded (l : EngineState) (rows later : Rows) (c : Catalog) (made : List (ℕ × Option (List ℕ))) (gone : List ℕ) : Type 0 where
  pub agree : (id : ℕ) → id < next_id l → later id ≡ rows id
  pub run : c.run ≡ l.catalogue.run
  pub renames : Renames (named l.catalogue) made (named c) gone
  pub brings : (id : ℕ) → Among id (made_ids made) → Among id (named c)
  pub shaped : IsCatalog c
  pub own : HasOwnIds c
  pub columns : AreCounted c
  pub recordable : AreRecordable c

-- The state behind the record of a turn, with the files that wait then.
abbrev pub recorded_state : EngineState → Catalog → ℕ → List Dropped → Book → ℕ → ℕ → EngineState
recorded_state l c generation trash leases adopted end = record l {
  catalogue = c;
  generation = generation;
  trash = trash;
  leases = leases;
  adopted = adopted;
  end = end;
}

-- The state behind device work that failed at a position: it is closed, whatever was adopted is lost, and a work's lease may have ended.
abbrev pub failed_state : EngineState → ℕ → Book → ℕ → EngineState
failed_state l position leases adopted = record l { leases = leases; closed = Some position; adopted = adopted }
