pub use Rattle.mesa_examine.specs as mesa_examine
pub use Rattle.mesa_examine.specs.mesa_open_files as mesa_open_files
pub mod Difference
pub mod Compared
