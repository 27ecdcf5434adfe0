pub use Rattle.mesa_batch.specs as mesa_batch
pub use Rattle.mesa_scan.specs.mesa_block as mesa_block
pub use Rattle.mesa_history_spec.specs.mesa_columns as mesa_columns
pub use Rattle.mesa_scan.specs.mesa_delta_format as mesa_delta_format
pub use Rattle.mesa_file.specs as mesa_file
pub use Rattle.mesa_filter.specs as mesa_filter
pub use Rattle.mesa_history_spec.specs.mesa_fold as mesa_fold
pub use Rattle.mesa_scan.specs.mesa_io as mesa_io
pub use Rattle.mesa_scan.specs as mesa_scan
pub use Rattle.mesa_scan.specs.mesa_value as mesa_value
pub mod Errors
pub mod Made
pub mod Batches
pub mod Inputs
pub mod Tasks
pub mod Recasts
pub mod Spares
pub mod Pins
pub mod Opening
pub mod GivingBack
