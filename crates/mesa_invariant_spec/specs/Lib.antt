pub use Rattle.mesa_history_spec.specs.mesa_batch as mesa_batch
pub use Rattle.mesa_history_spec.specs.mesa_columns as mesa_columns
pub use Rattle.mesa_history_spec.specs.mesa_file as mesa_file
pub use Rattle.mesa_history_spec.specs.mesa_filter as mesa_filter
pub use Rattle.mesa_history_spec.specs as mesa_history_spec
pub use Rattle.mesa_history_spec.specs.mesa_lease as mesa_lease
pub use Rattle.mesa_history_spec.specs.mesa_list as mesa_list
pub use Rattle.mesa_history_spec.specs.mesa_schema as mesa_schema
pub use Rattle.mesa_history_spec.specs.mesa_script as mesa_script
pub use Rattle.mesa_history_spec.specs.mesa_span as mesa_span
pub mod Books
pub mod Printing
pub mod Invariant
pub mod Turns
pub mod Undamaged
pub mod Causes
pub mod Changes
pub mod Queries
pub mod Works
pub mod Sight
