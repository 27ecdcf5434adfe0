-- A vault before its first turn, one whose disk gave readers back, and what a session sees of one.
use Rattle.std.proofs.Common.{◌≡◌, ℕ, ◌<◌, List, [], Bool, true, false, ◌∙◌, arith, Option, None, IsTrue}
use Rattle.mesa_disk.specs.declared.area.Area.{Area}
use Rattle.mesa_disk.specs.Story.{Story, Unmoved}
use Rattle.mesa_model.specs.declared.entries.Entry.{Entry}
use Rattle.mesa_invariant_spec.specs.mesa_history_spec.Claims.{HasRanges, HasClaimAt}
use Rattle.mesa_invariant_spec.specs.mesa_history_spec.Counting.{count_in}
use Rattle.mesa_invariant_spec.specs.mesa_history_spec.Law.{written_in}
use Rattle.mesa_invariant_spec.specs.mesa_history_spec.Run.{begins, place_of}
use Rattle.mesa_invariant_spec.proofs.mesa_history_spec.Claims.{runs_hold, begins_hold}
use Rattle.mesa_catalog.specs.mesa_store_spec.Catalog.{Catalog}
use Rattle.mesa_catalog.specs.mesa_store_spec.Held.{IsHeld}
use Rattle.mesa_catalog.specs.mesa_store_spec.Shape.{IsCatalog}
use Rattle.mesa_catalog.specs.mesa_store_spec.Sound.{HaveSoundRows}
use Rattle.mesa_catalog.specs.mesa_store_spec.Ids.{HasOwnIds, named}
use Rattle.mesa_invariant_spec.specs.mesa_history_spec.Rows.{Rows, no_rows}
use Rattle.mesa_commit.specs.Holding.{Among}
use Rattle.mesa_commit.proofs.Filing.{filed_first}
use Rattle.mesa_invariant_spec.specs.Turns.{IsSeen}
use Rattle.mesa_invariant_spec.specs.Invariant.{Outset, HoldsInvariant, Counts, run_of}
use Rattle.mesa_invariant_spec.proofs.Beginning.{unmoved_invariant}
use Rattle.mesa_engine.specs.EngineState.{EngineState, books_of, next_id}
use Rattle.mesa_catalog.specs.mesa_store_spec.Countable.{AreCounted}
use Rattle.mesa_catalog.specs.mesa_store_spec.Recordable.{AreRecordable}
use Rattle.mesa_catalog.specs.mesa_store_spec.Sourced.{HasSources}
use Rattle.mesa_engine.specs.Vault.{Origin, IsRead, IsReady, IsVault, Starts, IsVaultAt, outset_of}
use Rattle.mesa_engine.proofs.Standing.{held_unmoved, ready_unmoved, there_unmoved}

-- a state of a catalogue, in which nothing was done yet
abbrev pub first_state : Outset → Catalog → ℕ → Area → ℕ → EngineState
first_state o c generation area end = record { catalogue = c; generation = generation; pins = []; queries = []; trash = []; leases = o.start.machine.leases; given = []; closed = None; adopted = 0; area = area; end = end }

-- Before the first turn.
pub started_vault : (o : Outset) (g : Origin) (sound : Bool) (c : Catalog) (area : Area) (end : ℕ) (story : Story) (held : Option (List ℕ)) (rows : Rows) (bodies : List (List ℕ)) → HoldsInvariant o sound (books_of rows (first_state o c g.generation area end)) story held [] true false
    → c.run ≡ g.run → HasRanges o.start → o.start.machine.leases.granted ≡ 0 → (IsTrue sound → IsHeld story area bodies end c rows) → IsCatalog c → HasOwnIds c → AreCounted c → AreRecordable c → ((id : ℕ) → Among id (named c) → id < next_id (first_state o c g.generation area end))
    → IsReady (first_state o c g.generation area end) story → (IsTrue sound → HaveSoundRows rows c) → (IsTrue sound → HasSources rows g.found c) → (IsTrue sound → IsRead story) → IsVault o g sound (first_state o c g.generation area end) story held [] true false
unfolding count_in written_in
started_vault o g sound c area end story held rows bodies invariant numbered ranges none stands shaped own columns recordable named_given ready sound_rows sourced read = record {
  rows = rows;
  bodies = bodies;
  seen = λ position. c;
  invariant = invariant;
  ranges = ranges;
  stands = λ ok is. stands ok;
  shaped = shaped;
  own = own;
  columns = columns;
  recordable = recordable;
  copies = tt;
  versions = tt;
  counts = record { leases = omega (arith, none); given = tt; adopted = omega arith; generation = omega arith; run = numbered };
  filed = filed_first 0 (next_id (first_state o c g.generation area end)) (named c) named_given;
  ready = λ is. ready;
  read = read;
  there = λ ok i is. tt;
  sound_rows = λ ok. (sound_rows ok, tt);
  sourced = sourced;
}

-- Calls that move no image keep a vault, and so does a rise of a count.
pub unmoved_vault : (o : Outset) (g : Origin) (sound : Bool) (l : EngineState) (story new : Story) (held : Option (List ℕ)) (h : List Entry) (running refused : Bool) → Unmoved story new → Counts story new false → IsVault o g sound l story held h running refused → IsVault o g sound l new held h running refused
unmoved_vault o g sound l story new held h running refused same counts v = record {
  rows = v.rows;
  bodies = v.bodies;
  seen = v.seen;
  invariant = unmoved_invariant o sound (books_of v.rows l) story new held h running refused same counts v.invariant;
  ranges = v.ranges;
  stands = λ ok is. held_unmoved story new same l.area v.bodies l.end l.catalogue v.rows (v.stands ok is);
  shaped = v.shaped;
  own = v.own;
  columns = v.columns;
  recordable = v.recordable;
  copies = v.copies;
  versions = v.versions;
  counts = v.counts;
  filed = v.filed;
  ready = λ is. ready_unmoved story new same l (v.ready is);
  read = λ ok. let was = v.read ok in (was.0, same.told ∙ was.1);
  there = λ ok. there_unmoved story new same v.rows v.seen l (v.there ok);
  sound_rows = v.sound_rows;
  sourced = v.sourced;
}

-- What a session relies on.
pub vault_seen : (o : Outset) (g : Origin) (sound : Bool) (l : EngineState) (story : Story) (held : Option (List ℕ)) (h : List Entry) (running refused : Bool) (clock : ℕ) → IsVault o g sound l story held h running refused → IsSeen o.script o.start (record { history = h; running = running; clock = clock })
vault_seen o g sound l story held h running refused clock v = record { fits = v.invariant.legal; short = v.invariant.short; sink = v.invariant.sink }

-- The same of a family of starts, at the one without rows.
pub vault_at_seen : (n : Starts) (l : EngineState) (story : Story) (held : Option (List ℕ)) (h : List Entry) (running refused : Bool) (clock : ℕ) → IsVaultAt n l story held h running refused → IsSeen n.script (n.start no_rows) (record { history = h; running = running; clock = clock })
vault_at_seen n l story held h running refused clock v = vault_seen (outset_of n no_rows) (n.origin no_rows) false l story held h running refused clock (v no_rows false (λ is. absurd cc))

-- Each session's work has its claim.
pub vault_claims : (o : Outset) (g : Origin) (sound : Bool) (l : EngineState) (story : Story) (held : Option (List ℕ)) (h : List Entry) (running refused : Bool) → IsVault o g sound l story held h running refused → (session : ℕ) → HasClaimAt (run_of o h).state (place_of (run_of o h) session).stage
vault_claims o g sound l story held h running refused v session = (runs_hold o.script (begins o.start) h (begins_hold o.start v.ranges)).claims session
