pub use Rattle.mesa_batch.specs as mesa_batch
pub use Rattle.mesa_engine.specs.mesa_binding as mesa_binding
pub use Rattle.mesa_columns.specs as mesa_columns
pub use Rattle.mesa_file_records.specs as mesa_file_records
pub use Rattle.mesa_file_records.specs.mesa_history_spec as mesa_history_spec
pub use Rattle.mesa_engine.specs.mesa_invariant_spec as mesa_invariant_spec
pub use Rattle.mesa_file_records.specs.mesa_key as mesa_key
pub use Rattle.mesa_file_records.specs.mesa_list as mesa_list
pub use Rattle.mesa_file_records.specs.mesa_schema as mesa_schema
pub use Rattle.mesa_engine.specs.mesa_script as mesa_script
pub mod Writing
pub mod Committing
pub mod Ruling
pub mod Loading
