pub use Rattle.mesa_script.specs.mesa_batch as mesa_batch
pub use Rattle.mesa_script.specs.mesa_columns as mesa_columns
pub use Rattle.mesa_script.specs.mesa_file as mesa_file
pub use Rattle.mesa_script.specs.mesa_filter as mesa_filter
pub use Rattle.mesa_script.specs.mesa_fold as mesa_fold
pub use Rattle.mesa_script.specs.mesa_key as mesa_key
pub use Rattle.mesa_lease.specs as mesa_lease
pub use Rattle.mesa_script.specs.mesa_list as mesa_list
pub use Rattle.mesa_script.specs.mesa_model as mesa_model
pub use Rattle.mesa_script.specs.mesa_schema as mesa_schema
pub use Rattle.mesa_script.specs as mesa_script
pub use Rattle.mesa_span.specs as mesa_span
pub use Rattle.mesa_script.specs.mesa_value as mesa_value
pub mod Bare
pub mod Rows
pub mod Machine
pub mod Run
pub mod Replay
pub mod Refused
pub mod Legal
pub mod Turns
pub mod Found
pub mod Alone
pub mod Sources
pub mod Law
pub mod Counting
pub mod Claims
pub mod Output
