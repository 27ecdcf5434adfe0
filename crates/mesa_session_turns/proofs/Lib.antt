pub use Rattle.mesa_core.proofs as mesa_core
pub use Rattle.mesa_core.proofs.mesa_history_laws as mesa_history_laws
pub use Rattle.mesa_core.proofs.mesa_history_spec as mesa_history_spec
pub mod Damaged
pub mod Pinned
pub mod Spelling
pub mod Merging
pub mod Rewriting
pub mod Found
pub mod Stepping
pub mod Prepared
pub mod Closing
