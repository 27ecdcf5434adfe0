-- What a vault has in its memory between turns.
use Rattle.std.specs.Prelude.{◌≡◌, ℕ, ◌≤◌, [], not, ◌==◌, Bool, Option, None, Some}
use Rattle.mesa_disk.specs.declared.area.Area.{Area}
use Rattle.mesa_lease.specs.Book.{Book, begun}
use Rattle.mesa_model.specs.Warehouse.{max_tables}
use Rattle.mesa_record.specs.declared.record.Record.{Record}
use Rattle.mesa_catalog.specs.mesa_store_spec.Catalog.{Catalog}
use Rattle.mesa_commit.specs.declared.trash.Hold.{Hold}
use Rattle.mesa_catalog.specs.Lookups.{generation_of}
use Rattle.mesa_engine.specs.EngineState.{OpenQuery, EngineState, next_id}
use Rattle.mesa_engine.specs.Turned.{leased_state}

-- A record for which there is room, and how many files it may drop.
pub record Readied : Type 0 where
  pub entry : Record
  pub dropped : ℕ

-- A vault's memory: its state; what it has room for, if anything; and a position behind every one at which a lease was granted or renewed.
pub record Memory : Type 0 where
  pub state : EngineState
  pub reserved : Option Readied
  pub leased : ℕ

-- The state of a catalogue whose journal ends here in this area, before the run's first turn; each lease will hold for so many turns.
abbrev pub opened_state : Catalog → Area → ℕ → ℕ → EngineState
opened_state c area end turns = record {
  catalogue = c;
  generation = generation_of c;
  pins = [];
  queries = [];
  trash = [];
  leases = begun max_tables turns;
  given = [];
  closed = None;
  adopted = 0;
  area = area;
  end = end;
}

-- the same memory with another state
abbrev pub with_state : EngineState → Memory → Memory
with_state l m = record m { state = l }

-- with other leases, and the position behind the turn that they are of
abbrev pub with_leases : Book → ℕ → Memory → Memory
with_leases leases next m = record m { state = leased_state m.state leases; leased = next }

-- There is room for this record, and for so many files that it drops.
abbrev pub HasRoomFor : Record → ℕ → Option Readied → Type 0
HasRoomFor r count None = ⊥
HasRoomFor r count (Some y) = (y.entry ≡ r) × (count ≤ y.dropped)

-- a hold of the turn at a position, on all files that are named in it
abbrev pub hold_now : EngineState → ℕ → Hold
hold_now l position = record { at = position; next = next_id l }

-- an open query is of another session
abbrev pub is_of_another : ℕ → OpenQuery → Bool
is_of_another session q = not (q.session == session)
