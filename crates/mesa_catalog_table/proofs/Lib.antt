pub use Rattle.mesa_store_spec.proofs as mesa_store_spec
pub mod Tests
pub mod Counts
pub mod Singles
pub mod Tens
pub mod Works
pub mod Places
pub mod Named
pub mod Pushes
pub mod Copies
pub mod Ranged
