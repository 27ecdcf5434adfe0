pub use Rattle.mesa_disk.specs as mesa_disk
pub use Rattle.mesa_disk.specs.mesa_io as mesa_io
pub use Rattle.mesa_journal.specs as mesa_journal
pub mod Images
pub mod Turn
pub mod Restated
pub mod Holding
pub mod Filed
