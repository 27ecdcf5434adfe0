-- What stands written of tables in a run.
use Rattle.std.specs.Prelude.{ℕ, List}
use Rattle.mesa_invariant_spec.specs.mesa_history_spec.Law.{written_in}
use Rattle.mesa_invariant_spec.specs.mesa_history_spec.Run.{State, begins}
use Rattle.mesa_invariant_spec.specs.mesa_history_spec.Sources.{Written}
use Rattle.mesa_engine.specs.Vault.{Origin}
use Rattle.mesa_model.specs.declared.commands.Script.{Script}
use Rattle.mesa_model.specs.declared.entries.Entry.{Entry}

-- All that stands written of a table, by what a run found and by its history.
abbrev pub written_at : Script → State → Origin → List Entry → ℕ → List Written
written_at script start origin h table = written_in script (begins start) h table (origin.found table)
