pub use Rattle.mesa_list.specs as mesa_list
pub mod Errors
pub mod Latest
pub mod Looked
