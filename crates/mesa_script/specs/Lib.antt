pub use Rattle.mesa_model.specs.mesa_batch as mesa_batch
pub use Rattle.mesa_model.specs.mesa_columns as mesa_columns
pub use Rattle.mesa_model.specs.mesa_file as mesa_file
pub use Rattle.mesa_model.specs.mesa_filter as mesa_filter
pub use Rattle.mesa_model.specs.mesa_fold as mesa_fold
pub use Rattle.mesa_model.specs.mesa_key as mesa_key
pub use Rattle.mesa_model.specs.mesa_list as mesa_list
pub use Rattle.mesa_model.specs as mesa_model
pub use Rattle.mesa_model.specs.mesa_schema as mesa_schema
pub use Rattle.mesa_model.specs.mesa_value as mesa_value
pub mod Records
pub mod Words
pub mod Items
pub mod Script
pub mod Errors
pub mod Replies
pub mod Rows
pub mod Generated
