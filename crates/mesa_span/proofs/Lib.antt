pub mod Least
pub mod Longest
pub mod Missing
pub mod Reachable
mod Rows
