pub use Rattle.mesa_binding.proofs.mesa_columns as mesa_columns
pub use Rattle.mesa_commit.proofs as mesa_commit
pub use Rattle.mesa_invariant_spec.proofs.mesa_history_spec as mesa_history_spec
pub use Rattle.mesa_invariant_spec.proofs as mesa_invariant_spec
pub use Rattle.mesa_catalog.proofs.mesa_store_spec as mesa_store_spec
pub mod Lists
pub mod Standing
pub mod Holding
pub mod Accepting
pub mod ReadOnly
pub mod Filing
pub mod Renaming
pub mod RecordedStates
pub mod BeforeTurns
pub mod Pins
pub mod Staying
pub mod Agreeing
pub mod Changing
pub mod Sources
pub mod Swapping
pub mod Recasting
pub mod Writing
pub mod Indexed
pub mod Still
pub mod Mapped
pub mod Padded
pub mod Runs
pub mod Printing
pub mod Turning
pub mod Undone
pub mod Beginning
pub mod Seeing
pub mod Drafting
pub mod DiskState
