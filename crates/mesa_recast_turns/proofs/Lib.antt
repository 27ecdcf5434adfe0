pub use Rattle.mesa_work_turns.proofs.mesa_catalog_records as mesa_catalog_records
pub use Rattle.mesa_work_turns.proofs.mesa_copy as mesa_copy
pub use Rattle.mesa_work_turns.proofs.mesa_file_records as mesa_file_records
pub use Rattle.mesa_work_turns.proofs.mesa_invariant_spec as mesa_invariant_spec
pub use Rattle.mesa_work_turns.proofs.mesa_schema as mesa_schema
pub use Rattle.mesa_work_turns.proofs as mesa_work_turns
pub use Rattle.mesa_work_turns.proofs.mesa_write_turns as mesa_write_turns
pub mod Unfits
pub mod Checks
pub mod Dues
pub mod Paid
pub mod Further
pub mod Regroups
pub mod RegroupEngines
