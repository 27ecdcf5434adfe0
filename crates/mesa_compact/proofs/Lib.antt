pub use Rattle.mesa_merge.proofs as mesa_merge
pub mod Following
pub mod Causing
pub mod Putting
pub mod Viewing
pub mod Poured
pub mod Totals
pub mod Whole
pub mod Regrouped
pub mod Tasking
pub mod Leaving
pub mod Passing
