pub use Rattle.mesa_batch.specs as mesa_batch
pub use Rattle.mesa_catalog_records.specs as mesa_catalog_records
pub use Rattle.mesa_catalog_records.specs.mesa_catalog_table as mesa_catalog_table
pub use Rattle.mesa_catalog_records.specs.mesa_columns as mesa_columns
pub use Rattle.mesa_catalog_records.specs.mesa_commit as mesa_commit
pub use Rattle.mesa_catalog_records.specs.mesa_history_spec as mesa_history_spec
pub use Rattle.mesa_schema.specs as mesa_schema
pub use Rattle.mesa_span.specs as mesa_span
pub use Rattle.mesa_catalog_records.specs.mesa_store_spec as mesa_store_spec
pub mod Lookups
pub mod Kept
pub mod Restored
