pub use Rattle.mesa_io.specs as mesa_io
pub use Rattle.mesa_file.specs.mesa_key as mesa_key
pub mod Image
pub mod Story
pub mod Files
pub mod Untold
pub mod Recorded
pub mod Picked
pub mod Memory
pub mod Benches
pub mod MemoryLaws
pub mod Spoiled
pub mod MemFiles
