pub use Rattle.mesa_session_turns.proofs.mesa_history_laws as mesa_history_laws
pub use Rattle.mesa_session_turns.proofs.mesa_history_spec as mesa_history_spec
pub mod Drawing
pub mod Counts
pub mod Whole
