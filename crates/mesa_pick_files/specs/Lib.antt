pub use Rattle.mesa_query.specs.mesa_answer as mesa_answer
pub use Rattle.mesa_query.specs.mesa_block as mesa_block
pub use Rattle.mesa_validate.specs.mesa_catalog_records as mesa_catalog_records
pub use Rattle.mesa_catalog_table.specs as mesa_catalog_table
pub use Rattle.mesa_validate.specs.mesa_columns as mesa_columns
pub use Rattle.mesa_validate.specs.mesa_commit as mesa_commit
pub use Rattle.mesa_delta.specs as mesa_delta
pub use Rattle.mesa_catalog_table.specs.mesa_delta_format as mesa_delta_format
pub use Rattle.mesa_query.specs.mesa_key as mesa_key
pub use Rattle.mesa_validate.specs.mesa_list as mesa_list
pub use Rattle.mesa_query.specs.mesa_merge as mesa_merge
pub use Rattle.mesa_validate.specs.mesa_model as mesa_model
pub use Rattle.mesa_query.specs as mesa_query
pub use Rattle.mesa_query.specs.mesa_scan as mesa_scan
pub use Rattle.mesa_schema.specs as mesa_schema
pub use Rattle.mesa_span.specs as mesa_span
pub use Rattle.mesa_query.specs.mesa_value as mesa_value
pub mod Lent
pub mod Folding
pub mod Files
pub mod Gathered
pub mod Parts
pub mod Ranges
pub mod Ranging
pub mod Read
pub mod Told
