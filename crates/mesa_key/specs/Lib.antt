pub use Rattle.mesa_value.specs.mesa_list as mesa_list
pub use Rattle.mesa_value.specs as mesa_value
pub mod Columns
pub mod Faults
pub mod Order
pub mod Spelling
pub mod Text
