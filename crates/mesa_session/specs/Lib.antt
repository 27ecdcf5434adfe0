pub use Rattle.mesa_session_turns.specs.mesa_core as mesa_core
pub use Rattle.mesa_session_turns.specs.mesa_filter as mesa_filter
pub use Rattle.mesa_session_turns.specs.mesa_fold as mesa_fold
pub use Rattle.mesa_session_turns.specs.mesa_history_laws as mesa_history_laws
pub use Rattle.mesa_session_turns.specs.mesa_history_spec as mesa_history_spec
pub use Rattle.mesa_session_turns.specs.mesa_invariant_spec as mesa_invariant_spec
pub use Rattle.mesa_session_turns.specs.mesa_schema as mesa_schema
pub mod Drafts
