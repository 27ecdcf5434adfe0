pub use Rattle.mesa_batch.proofs as mesa_batch
pub use Rattle.mesa_columns.proofs as mesa_columns
pub use Rattle.mesa_filter.proofs.mesa_fold as mesa_fold
pub use Rattle.mesa_batch.proofs.mesa_key as mesa_key
pub use Rattle.mesa_batch.proofs.mesa_schema as mesa_schema
mod Vectors
pub mod Closed
pub mod Numbers
