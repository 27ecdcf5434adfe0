pub use Rattle.mesa_block.specs as mesa_block
pub use Rattle.mesa_delta.specs.mesa_columns as mesa_columns
pub use Rattle.mesa_delta.specs.mesa_delta_format as mesa_delta_format
pub use Rattle.mesa_delta.specs.mesa_file as mesa_file
pub use Rattle.mesa_delta.specs.mesa_fold as mesa_fold
pub use Rattle.mesa_disk.specs.mesa_io as mesa_io
pub use Rattle.mesa_schema.specs as mesa_schema
pub use Rattle.mesa_delta.specs.mesa_value as mesa_value
pub mod Cut
pub mod Laws
pub mod Cursors
pub mod Allowing
pub mod Damaged
pub mod MatchingRows
pub mod Moving
pub mod Scanning
