pub mod Plain
pub mod Pinned
