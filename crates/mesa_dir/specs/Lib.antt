pub use Rattle.mesa_os.specs as mesa_os
pub mod Paths
pub mod Told
pub mod Opening
pub mod Asked
pub mod Drafts
pub mod Folders
pub mod Disks
pub mod Readers
