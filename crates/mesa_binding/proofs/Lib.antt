pub use Rattle.mesa_model.proofs.mesa_columns as mesa_columns
pub mod Alterings
pub mod Makings
pub mod Namings
pub mod Queries
pub mod Recastings
pub mod Viewings
