pub mod Filing
pub mod FilesToWrite
pub mod Collected
pub mod Plans
pub mod Preparing
