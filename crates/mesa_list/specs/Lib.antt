pub mod Bytes
pub mod Checks
pub mod Pieces
pub mod Split
