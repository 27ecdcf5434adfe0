pub use Rattle.mesa_delta_format.proofs.mesa_block as mesa_block
pub use Rattle.mesa_delta_format.proofs as mesa_delta_format
pub mod Putting
pub mod Placing
pub mod Taking
pub mod Vectors
pub mod Over
pub mod Indexing
pub mod Going
pub mod Steps
pub mod Accepting
pub mod Following
pub mod Waiting
