pub use Rattle.mesa_filter.proofs.mesa_fold as mesa_fold
pub mod Lifted
pub mod Handing
pub mod Cutting
pub mod Cuts
pub mod Starting
pub mod Rising
pub mod Following
pub mod Giving
pub mod Taken
pub mod Ending
pub mod Bounds
pub mod Blocks
pub mod Skipping
pub mod Going
pub mod Onwards
pub mod Chosen
pub mod Moving
