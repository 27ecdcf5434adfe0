pub mod Ranges
pub mod Plan
pub mod Work
