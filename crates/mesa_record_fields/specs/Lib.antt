pub use Rattle.mesa_columns.specs as mesa_columns
pub use Rattle.mesa_file.specs.mesa_key as mesa_key
pub use Rattle.mesa_columns.specs.mesa_list as mesa_list
pub mod Spelling
pub mod Rules
pub mod Reading
