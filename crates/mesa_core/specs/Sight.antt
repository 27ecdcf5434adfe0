-- What a load sees of the tables after some turns.
use Rattle.std.specs.Prelude.{◌≡◌, ℕ, ◌+◌, List, ◌++◌, map}
use Rattle.mesa_batch.specs.Glance.{Known, Sight}
use Rattle.mesa_model.specs.declared.commands.Script.{Script}
use Rattle.mesa_model.specs.declared.entries.Entry.{Entry}
use Rattle.mesa_model.specs.Warehouse.{Store, Table}
use Rattle.mesa_recast_turns.specs.mesa_history_spec.Run.{State, begins}
use Rattle.mesa_recast_turns.specs.mesa_invariant_spec.Sight.{schema_changes}
use Rattle.mesa_recast_turns.specs.mesa_invariant_spec.Invariant.{run_at}

-- each table's name, and its columns and views through its life
abbrev pub tables_known : Store → List Known
tables_known s = map {B = Known} (λ (t : Table). record { name = t.name; lineage = t.lineage }) s.tables

-- What a load sees after a history: the tables, and how often tables, views and columns have changed by then, counted on from the generation with which the run began.
abbrev pub sight_after : Script → State → ℕ → List Entry → Sight
sight_after script start generation h = record {
  generation = generation + schema_changes script (begins start) h;
  tables = tables_known (run_at script start h).state.warehouse.store;
}

-- While the generation stays, so does all that a load sees.
abbrev pub SightLasts : Type 0
SightLasts = (script : Script) (start : State) (generation : ℕ) (h more : List Entry)
    → (sight_after script start generation (h ++ more)).generation ≡ (sight_after script start generation h).generation
    → sight_after script start generation (h ++ more) ≡ sight_after script start generation h
