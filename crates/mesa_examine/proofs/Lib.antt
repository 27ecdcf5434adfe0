pub use Rattle.mesa_open_files.proofs as mesa_open_files
pub mod SumColumns
pub mod Tallying
pub mod Streams
pub mod Judged
