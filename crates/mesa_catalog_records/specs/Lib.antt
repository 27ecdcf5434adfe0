pub use Rattle.mesa_table_records.specs.mesa_catalog_table as mesa_catalog_table
pub use Rattle.mesa_table_records.specs.mesa_columns as mesa_columns
pub use Rattle.mesa_table_records.specs.mesa_commit as mesa_commit
pub use Rattle.mesa_table_records.specs.mesa_history_spec as mesa_history_spec
pub use Rattle.mesa_table_records.specs.mesa_model as mesa_model
pub use Rattle.mesa_table_records.specs.mesa_record as mesa_record
pub use Rattle.mesa_table_records.specs.mesa_store_spec as mesa_store_spec
pub use Rattle.mesa_table_records.specs as mesa_table_records
pub mod Meaning
pub mod Names
pub mod Named
pub mod Readied
