pub use Rattle.mesa_history_laws.proofs as mesa_history_laws
pub use Rattle.mesa_engine.proofs.mesa_history_spec as mesa_history_spec
pub mod Behind
pub mod Turning
pub mod SessionEnds
pub mod Dividing
pub mod Answering
pub mod Counting
pub mod Lasting
pub mod Known
pub mod Same
pub mod SameRecasts
pub mod MergedTasks
pub mod Going
pub mod Later
pub mod Bounded
pub mod Rooms
pub mod Due
pub mod Skipped
pub mod Catalogue
pub mod Handed
pub mod Granted
pub mod RecastGranted
pub mod RecastHeld
pub mod Unmade
pub mod Merged
