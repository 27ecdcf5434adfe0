pub use Rattle.mesa_table_records.proofs.mesa_catalog_table as mesa_catalog_table
pub use Rattle.mesa_table_records.proofs.mesa_store_spec as mesa_store_spec
pub use Rattle.mesa_table_records.proofs as mesa_table_records
pub mod TableMetas
pub mod Applies
pub mod Dropped
pub mod Expired
pub mod Ids
pub mod Loads
pub mod Made
pub mod Names
pub mod Relations
pub mod Roomier
