pub use Rattle.mesa_columns.specs as mesa_columns
pub use Rattle.mesa_columns.specs.mesa_key as mesa_key
pub use Rattle.mesa_columns.specs.mesa_list as mesa_list
pub use Rattle.mesa_columns.specs.mesa_value as mesa_value
pub mod Folded
pub mod Put
pub mod Laws
