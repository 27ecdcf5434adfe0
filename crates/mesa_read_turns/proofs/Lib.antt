pub use Rattle.mesa_pick_files.proofs.mesa_catalog_records as mesa_catalog_records
pub use Rattle.mesa_pick_files.proofs.mesa_fold as mesa_fold
pub use Rattle.mesa_pick_files.proofs as mesa_pick_files
pub use Rattle.mesa_pick_files.proofs.mesa_schema as mesa_schema
pub mod Looks
pub mod Pins
pub mod Plans
pub mod Releases
pub mod Closes
pub mod Digests
pub mod Opens
pub mod Sees
pub mod States
pub mod FilesTell
pub mod Versions
