pub use Rattle.mesa_columns.specs as mesa_columns
pub use Rattle.mesa_filter.specs as mesa_filter
pub mod Lines
pub mod Writing
pub mod Printed
