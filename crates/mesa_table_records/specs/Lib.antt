pub use Rattle.mesa_batch.specs as mesa_batch
pub use Rattle.mesa_catalog_table.specs as mesa_catalog_table
pub use Rattle.mesa_catalog_table.specs.mesa_columns as mesa_columns
pub use Rattle.mesa_catalog_table.specs.mesa_commit as mesa_commit
pub use Rattle.mesa_catalog_table.specs.mesa_history_spec as mesa_history_spec
pub use Rattle.mesa_catalog_table.specs.mesa_model as mesa_model
pub use Rattle.mesa_catalog_table.specs.mesa_record as mesa_record
pub use Rattle.mesa_catalog_table.specs.mesa_span as mesa_span
pub use Rattle.mesa_catalog_table.specs.mesa_store_spec as mesa_store_spec
pub mod Readied
pub mod Stated
pub mod Renewed
