pub use Rattle.mesa_read_turns.proofs.mesa_catalog_records as mesa_catalog_records
pub use Rattle.mesa_engine.proofs.mesa_commit as mesa_commit
pub use Rattle.mesa_copy.proofs as mesa_copy
pub use Rattle.mesa_write_turns.proofs.mesa_file_records as mesa_file_records
pub use Rattle.mesa_write_turns.proofs.mesa_invariant_spec as mesa_invariant_spec
pub use Rattle.mesa_record.proofs as mesa_record
pub use Rattle.mesa_read_turns.proofs.mesa_schema as mesa_schema
pub use Rattle.mesa_write_turns.proofs as mesa_write_turns
pub mod Claims
pub mod RecastClaims
pub mod Grants
pub mod GrantTurns
pub mod Renewals
pub mod Sound
pub mod Ranges
pub mod Bounded
pub mod RecastRanges
pub mod Closings
pub mod ClosingClaims
pub mod Refusing
pub mod Swaps
pub mod SwapEngines
pub mod Sweeping
