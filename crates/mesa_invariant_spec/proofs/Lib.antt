pub use Rattle.mesa_history_spec.proofs.mesa_columns as mesa_columns
pub use Rattle.mesa_history_spec.proofs as mesa_history_spec
pub mod Printed
pub mod Clock
pub mod Steps
pub mod Coming
pub mod Turning
pub mod Projections
pub mod Changing
pub mod Pieces
pub mod Pinning
pub mod Reading
pub mod Asking
pub mod Working
pub mod Recasting
pub mod Beginning
pub mod Going
pub mod Alike
pub mod Making
pub mod Faulting
