pub use Rattle.mesa_answer.specs as mesa_answer
pub use Rattle.mesa_block.specs as mesa_block
pub use Rattle.mesa_open_files.specs.mesa_columns as mesa_columns
pub use Rattle.mesa_delta.specs as mesa_delta
pub use Rattle.mesa_open_files.specs.mesa_delta_format as mesa_delta_format
pub use Rattle.mesa_open_files.specs.mesa_fold as mesa_fold
pub use Rattle.mesa_open_files.specs.mesa_io as mesa_io
pub use Rattle.mesa_view.specs.mesa_key as mesa_key
pub use Rattle.mesa_merge.specs as mesa_merge
pub use Rattle.mesa_open_files.specs as mesa_open_files
pub use Rattle.mesa_scan.specs as mesa_scan
pub use Rattle.mesa_schema.specs as mesa_schema
pub use Rattle.mesa_view.specs as mesa_view
pub mod Ungrouped
pub mod Moved
pub mod Pieces
pub mod Jobs
