-- What a catalogue is by the history of its run.
use Rattle.std.specs.Prelude.{◌≡◌, ℕ, ◌<◌, List, length}
use Rattle.mesa_engine.specs.mesa_catalog.Lookups.{sight_of}
use Rattle.mesa_recast_turns.specs.mesa_history_spec.Run.{State}
use Rattle.mesa_engine.specs.mesa_store_spec.Catalog.{Catalog, meta_at}
use Rattle.mesa_model.specs.declared.commands.Script.{Script}
use Rattle.mesa_model.specs.declared.entries.Entry.{Entry}
use Rattle.mesa_recast_turns.specs.mesa_schema.Lineages.{IsLineage}
use Rattle.mesa_core.specs.Sight.{sight_after}
use Rattle.mesa_recast_turns.specs.mesa_history_spec.Rows.{Rows, no_rows}
use Rattle.mesa_recast_turns.specs.mesa_invariant_spec.Invariant.{run_at}

-- A catalogue is that of a history, for a run that began with a generation: a load sees of it what the history says; it has as many versions, whatever rows the files had when the run began; and each table's columns and views followed the rules.
pub record IsCatalogAfter (script : Script) (start : Rows → State) (generation : ℕ) (h : List Entry) (c : Catalog) : Type 0 where
  pub sight : sight_of c ≡ sight_after script (start no_rows) generation h
  pub next : (w : Rows) → c.next ≡ (run_at script (start w) h).state.warehouse.next
  pub lineages : (number : ℕ) → number < length c.tables → IsLineage (meta_at c number).lineage
