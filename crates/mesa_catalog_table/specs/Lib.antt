pub use Rattle.mesa_store_spec.specs.mesa_columns as mesa_columns
pub use Rattle.mesa_store_spec.specs.mesa_commit as mesa_commit
pub use Rattle.mesa_store_spec.specs.mesa_delta_format as mesa_delta_format
pub use Rattle.mesa_store_spec.specs.mesa_history_spec as mesa_history_spec
pub use Rattle.mesa_store_spec.specs.mesa_model as mesa_model
pub use Rattle.mesa_record.specs as mesa_record
pub use Rattle.mesa_span.specs as mesa_span
pub use Rattle.mesa_store_spec.specs as mesa_store_spec
pub mod Meaning
pub mod Lookups
pub mod Room
pub mod Named
pub mod Files
pub mod Copied
pub mod Ranged
