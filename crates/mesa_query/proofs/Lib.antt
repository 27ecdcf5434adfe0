pub use Rattle.mesa_group_blocks.proofs.mesa_answer as mesa_answer
pub use Rattle.mesa_filter.proofs as mesa_filter
pub use Rattle.mesa_group_blocks.proofs.mesa_fold as mesa_fold
pub use Rattle.mesa_group_blocks.proofs.mesa_merge as mesa_merge
pub mod Ungrouped
pub mod Files
pub mod Holding
pub mod Answered
pub mod AllGroups
pub mod Differing
mod CachedFiles
mod Taking
mod Cooling
mod AnsweredCached
mod CachedPins
