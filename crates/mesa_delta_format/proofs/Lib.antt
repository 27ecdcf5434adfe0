pub use Rattle.mesa_block.proofs as mesa_block
pub mod Adding
pub mod Spreading
pub mod JoinedParts
pub mod Searching
pub mod Shorts
pub mod Beginning
pub mod Entering
pub mod Tailing
pub mod Packing
pub mod Placed
pub mod BlocksOnce
pub mod Bounding
pub mod Once
