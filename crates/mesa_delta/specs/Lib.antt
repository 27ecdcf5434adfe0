pub use Rattle.mesa_delta_format.specs.mesa_columns as mesa_columns
pub use Rattle.mesa_delta_format.specs as mesa_delta_format
pub use Rattle.mesa_delta_format.specs.mesa_file as mesa_file
pub use Rattle.mesa_delta_format.specs.mesa_fold as mesa_fold
pub use Rattle.mesa_delta_format.specs.mesa_key as mesa_key
pub use Rattle.mesa_delta_format.specs.mesa_value as mesa_value
pub mod Faults
pub mod Begun
pub mod Pending
pub mod Laying
pub mod Writing
pub mod Damages
pub mod Ahead
pub mod NextBlock
pub mod Reading
