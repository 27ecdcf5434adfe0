pub use Rattle.mesa_answer.specs as mesa_answer
pub use Rattle.mesa_open_files.specs.mesa_block as mesa_block
pub use Rattle.mesa_open_files.specs.mesa_columns as mesa_columns
pub use Rattle.mesa_open_files.specs.mesa_delta_format as mesa_delta_format
pub use Rattle.mesa_open_files.specs.mesa_io as mesa_io
pub use Rattle.mesa_merge.specs as mesa_merge
pub use Rattle.mesa_open_files.specs.mesa_scan as mesa_scan
pub mod Writing
pub mod Damaged
pub mod Regrouped
pub mod Grouping
pub mod Sources
pub mod Tasks
pub mod Bounded
