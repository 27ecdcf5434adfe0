pub use Rattle.mesa_answer.proofs as mesa_answer
pub use Rattle.mesa_merge.proofs.mesa_fold as mesa_fold
pub use Rattle.mesa_merge.proofs as mesa_merge
pub use Rattle.mesa_scan.proofs as mesa_scan
pub mod Blocks
pub mod Moved
pub mod Contents
pub mod Owned
pub mod PieceRows
pub mod Decoded
pub mod JobSteps
pub mod ReadBlocks
pub mod Joined
