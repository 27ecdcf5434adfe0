pub use Rattle.mesa_history_spec.specs.mesa_columns as mesa_columns
pub use Rattle.mesa_commit.specs as mesa_commit
pub use Rattle.mesa_delta_format.specs as mesa_delta_format
pub use Rattle.mesa_history_spec.specs.mesa_file as mesa_file
pub use Rattle.mesa_history_spec.specs as mesa_history_spec
pub use Rattle.mesa_delta_format.specs.mesa_key as mesa_key
pub use Rattle.mesa_history_spec.specs.mesa_model as mesa_model
pub use Rattle.mesa_record.specs as mesa_record
pub use Rattle.mesa_record.specs.mesa_record_fields as mesa_record_fields
pub mod Catalog
pub mod Checkpoint
pub mod SameFiles
pub mod Fitting
pub mod CheckpointFits
pub mod Journaled
pub mod Contents
pub mod Sound
pub mod Held
pub mod Shape
pub mod Brought
pub mod Moves
pub mod Ids
pub mod Sourced
pub mod Rewritten
pub mod Planned
pub mod Statable
pub mod Countable
pub mod Recordable
