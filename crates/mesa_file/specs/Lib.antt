pub use Rattle.mesa_key.specs as mesa_key
pub mod Serials
