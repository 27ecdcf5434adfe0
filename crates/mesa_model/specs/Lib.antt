pub use Rattle.mesa_batch.specs as mesa_batch
pub use Rattle.mesa_columns.specs as mesa_columns
pub use Rattle.mesa_file.specs as mesa_file
pub use Rattle.mesa_filter.specs as mesa_filter
pub use Rattle.mesa_batch.specs.mesa_fold as mesa_fold
pub use Rattle.mesa_batch.specs.mesa_key as mesa_key
pub use Rattle.mesa_batch.specs.mesa_list as mesa_list
pub use Rattle.mesa_batch.specs.mesa_schema as mesa_schema
pub use Rattle.mesa_batch.specs.mesa_value as mesa_value
pub mod Entry
pub mod Warehouse
pub mod Relations
pub mod Refusals
pub mod Orders
pub mod Tables
pub mod Load
pub mod Versions
pub mod Pins
pub mod Page
pub mod Query
pub mod Step
pub mod WellFormed
