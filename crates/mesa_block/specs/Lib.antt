pub use Rattle.mesa_columns.specs.mesa_key as mesa_key
pub use Rattle.mesa_columns.specs.mesa_value as mesa_value
pub mod Layout
pub mod Spelling
pub mod Rows
pub mod Fill
pub mod Reading
pub mod Cells
