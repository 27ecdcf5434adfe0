pub use Rattle.mesa_catalog_table.proofs as mesa_catalog_table
pub use Rattle.mesa_catalog_table.proofs.mesa_store_spec as mesa_store_spec
pub mod Loads
pub mod Bounds
pub mod Sums
pub mod Restored
pub mod Stated
pub mod Taken
pub mod Paired
pub mod Renewed
pub mod Recasted
