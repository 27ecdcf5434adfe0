pub use Rattle.mesa_catalog.proofs.mesa_batch as mesa_batch
pub use Rattle.mesa_catalog.proofs.mesa_catalog_records as mesa_catalog_records
pub use Rattle.mesa_binding.proofs.mesa_columns as mesa_columns
pub use Rattle.mesa_order.proofs as mesa_order
pub use Rattle.mesa_catalog.proofs.mesa_store_spec as mesa_store_spec
pub mod Doing
pub mod Fits
pub mod Seen
pub mod Answering
pub mod Explained
pub mod Finding
pub mod ReadBy
