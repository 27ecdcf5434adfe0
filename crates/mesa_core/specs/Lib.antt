pub use Rattle.mesa_recast_turns.specs.mesa_answer as mesa_answer
pub use Rattle.mesa_recast_turns.specs.mesa_columns as mesa_columns
pub use Rattle.mesa_open_files.specs.mesa_fold as mesa_fold
pub use Rattle.mesa_history_laws.specs as mesa_history_laws
pub use Rattle.mesa_recast_turns.specs.mesa_history_spec as mesa_history_spec
pub use Rattle.mesa_recast_turns.specs.mesa_invariant_spec as mesa_invariant_spec
pub use Rattle.mesa_recast_turns.specs.mesa_merge as mesa_merge
pub use Rattle.mesa_recast_turns.specs as mesa_recast_turns
pub use Rattle.mesa_recast_turns.specs.mesa_schema as mesa_schema
pub mod Passes
pub mod Answers
pub mod Sight
pub mod Damages
pub mod Drafts
pub mod Pins
pub mod Works
pub mod Recasts
pub mod Known
pub mod Vault
pub mod Asked
pub mod Standing
pub mod Handing
