pub mod Following
pub mod Sums
