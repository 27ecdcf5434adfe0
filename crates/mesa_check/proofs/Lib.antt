pub use Rattle.mesa_pick_files.proofs.mesa_fold as mesa_fold
pub use Rattle.mesa_schema.proofs as mesa_schema
mod KeyLists
mod Vectors
mod Silent
mod Bounds
mod Sounding
mod Faultless
mod Stores
mod InOrder
pub mod Lists
pub mod Walked
pub mod Held
pub mod Sums
pub mod Rows
pub mod Recorded
pub mod Told
pub mod Behind
pub mod Standing
pub mod Merged
pub mod Ordered
pub mod Unasked
pub mod Earlier
pub mod Founded
