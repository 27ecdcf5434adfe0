pub use Rattle.mesa_key.specs as mesa_key
pub use Rattle.mesa_key.specs.mesa_list as mesa_list
pub use Rattle.mesa_key.specs.mesa_value as mesa_value
pub mod Names
pub mod Numbers
pub mod Columns
pub mod Codes
pub mod Schema
pub mod Changes
pub mod Lifting
pub mod Rows
pub mod Lent
