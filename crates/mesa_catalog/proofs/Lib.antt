pub use Rattle.mesa_batch.proofs as mesa_batch
pub use Rattle.mesa_catalog_records.proofs as mesa_catalog_records
pub use Rattle.mesa_catalog_records.proofs.mesa_catalog_table as mesa_catalog_table
pub use Rattle.mesa_catalog_records.proofs.mesa_store_spec as mesa_store_spec
pub mod Counted
pub mod Generation
pub mod Keeping
pub mod Sorting
pub mod RestoredIds
pub mod Restored
