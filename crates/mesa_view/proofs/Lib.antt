pub use Rattle.mesa_answer.proofs as mesa_answer
pub mod Sums
pub mod Blocks
pub mod Waiting
