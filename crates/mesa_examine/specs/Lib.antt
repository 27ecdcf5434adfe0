pub use Rattle.mesa_open_files.specs.mesa_batch as mesa_batch
pub use Rattle.mesa_delta.specs as mesa_delta
pub use Rattle.mesa_open_files.specs.mesa_delta_format as mesa_delta_format
pub use Rattle.mesa_open_files.specs.mesa_file as mesa_file
pub use Rattle.mesa_open_files.specs as mesa_open_files
pub use Rattle.mesa_scan.specs as mesa_scan
pub mod Aggregates
pub mod Sums
pub mod Tallies
pub mod Examined
