-- The life of a store: runs one after another, and crashes between them.
use Rattle.std.specs.Prelude.{ℕ, List, [], ◌∷◌, map, None}
use Rattle.mesa_model.specs.declared.commands.Script.{Script}
use Rattle.mesa_model.specs.declared.entries.Entry.{Entry}
use Rattle.mesa_columns.specs.declared.rows.Row.{Row}
use Rattle.mesa_session.specs.mesa_schema.Changes.{columns_of}
use Rattle.mesa_columns.specs.Columns.{aggs_of}
use Rattle.mesa_session.specs.mesa_fold.Folded.{folded}
use Rattle.mesa_model.specs.Warehouse.{Table, Warehouse, empty_warehouse}
use Rattle.mesa_session.specs.mesa_history_spec.Found.{Kept, kept_in}
use Rattle.mesa_session.specs.mesa_history_spec.Law.{HoldsIn, written_in}
use Rattle.mesa_session.specs.mesa_history_spec.Run.{begins}
use Rattle.mesa_session.specs.mesa_history_spec.Sources.{Written, rows_now, sources_to}
use Rattle.mesa_session.specs.mesa_invariant_spec.Invariant.{run_at}
use Rattle.mesa_shell.specs.StoreStart.{state_of}

-- A run in a store's life: its script, and those of its turns that the store has: all of them, or the ones before a crash.
pub record Stretch : Type 0 where
  pub script : Script
  pub turns : List Entry

-- what an empty store keeps
abbrev pub kept_at_first : Kept
kept_at_first = record { store = empty_warehouse.store; next = 0; ranges = [] }

-- what a store keeps after a run that starts from what it kept
abbrev pub kept_next : Kept → Stretch → Kept
kept_next kept s = kept_in (run_at s.script (state_of s.script kept) s.turns)

-- what a store keeps after runs one after another
unfoldable pub kept_after : Kept → List Stretch → Kept
kept_after kept [] = kept
kept_after kept (s ∷ rest) = kept_after (kept_next kept s) rest

-- what stands written of the table of a number behind these runs: all that stood, carried, and the batches that they accepted, in their order, each carried too
unfoldable pub written_over : Kept → List Stretch → ℕ → List Written → List Written
written_over kept [] number written = written
written_over kept (s ∷ rest) number written = written_over (kept_next kept s) rest number (written_in s.script (begins (state_of s.script kept)) s.turns number written)

-- the fold of all batches of the table of a number that were accepted through a version since the store was empty, each carried to the present
abbrev pub life_content : List Stretch → ℕ → Table → ℕ → List Row
life_content life number t version = folded (aggs_of (columns_of t.lineage)) (map (rows_now t.lineage) (sources_to version (written_over kept_at_first life number [])))

-- the warehouse of a store that keeps this, before a run
abbrev pub warehouse_of : Kept → Warehouse
warehouse_of kept = record { store = kept.store; next = kept.next; given = []; pins = []; closed = None }

-- From an empty store, after any runs and whatever crashes came between, each content at a version that can be queried is the fold of all batches that were accepted through it, each carried to the present.
abbrev pub LifeLaw : Type 0
LifeLaw = (life : List Stretch) → HoldsIn (life_content life) (warehouse_of (kept_after kept_at_first life))
