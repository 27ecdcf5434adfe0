pub use Rattle.mesa_model.proofs.mesa_batch as mesa_batch
pub use Rattle.mesa_model.proofs.mesa_columns as mesa_columns
pub use Rattle.mesa_model.proofs.mesa_fold as mesa_fold
pub use Rattle.mesa_model.proofs.mesa_key as mesa_key
pub use Rattle.mesa_model.proofs as mesa_model
pub use Rattle.mesa_model.proofs.mesa_schema as mesa_schema
