pub use Rattle.mesa_record_fields.specs as mesa_record_fields
pub mod Spelling
pub mod Rules
pub mod Editions
pub mod Reading
