pub use Rattle.mesa_examine.proofs.mesa_open_files as mesa_open_files
pub mod Same
pub mod Least
pub mod Beside
pub mod Differences
pub mod Stepping
pub mod Counting
pub mod Differing
pub mod Openings
pub mod GivenBack
