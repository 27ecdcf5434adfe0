pub use Rattle.mesa_binding.specs as mesa_binding
pub use Rattle.mesa_catalog.specs as mesa_catalog
pub use Rattle.mesa_commit.specs as mesa_commit
pub use Rattle.mesa_invariant_spec.specs.mesa_history_spec as mesa_history_spec
pub use Rattle.mesa_invariant_spec.specs as mesa_invariant_spec
pub use Rattle.mesa_record.specs as mesa_record
pub use Rattle.mesa_record.specs.mesa_record_fields as mesa_record_fields
pub use Rattle.mesa_script.specs as mesa_script
pub use Rattle.mesa_catalog.specs.mesa_span as mesa_span
pub use Rattle.mesa_catalog.specs.mesa_store_spec as mesa_store_spec
pub mod EngineState
pub mod Vault
pub mod Written
pub mod Recorded
pub mod Turned
pub mod Memory
pub mod Meaning
pub mod Index
pub mod Failure
pub mod Printing
pub mod Engine
pub mod Beginning
pub mod Failing
pub mod DiskState
