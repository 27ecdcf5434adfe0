pub use Rattle.mesa_file_records.proofs as mesa_file_records
pub use Rattle.mesa_engine.proofs.mesa_invariant_spec as mesa_invariant_spec
pub mod Doing
pub mod Committed
pub mod Written
pub mod Keeping
pub mod Engines
pub mod Rulings
pub mod Loads
