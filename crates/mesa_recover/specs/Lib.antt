pub use Rattle.mesa_store.specs.mesa_io as mesa_io
pub use Rattle.mesa_journal.specs as mesa_journal
pub mod Damages
pub mod Checking
pub mod Misfits
pub mod Strays
pub mod Opening
pub mod Live
pub mod Anew
pub mod Opened
