pub use Rattle.mesa_file.proofs.mesa_list as mesa_list
pub mod Series
pub mod InTurn
pub mod Both
pub mod Numbers
pub mod Texts
pub mod ColumnsBoth
pub mod FileRefsBoth
