pub use Rattle.mesa_scan.proofs.mesa_fold as mesa_fold
pub use Rattle.mesa_scan.proofs as mesa_scan
pub mod Ahead
pub mod Answering
pub mod Beginning
pub mod Between
pub mod Bounds
pub mod Cases
pub mod Causing
pub mod Combining
pub mod Damages
pub mod Ending
pub mod Fronts
pub mod Handing
pub mod Hands
pub mod Held
pub mod Inputs
pub mod Lasting
pub mod Newest
pub mod Orders
pub mod Parts
pub mod Stages
pub mod Steps
pub mod Taking
pub mod Trees
