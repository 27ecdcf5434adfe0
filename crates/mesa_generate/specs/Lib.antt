pub mod Seeds
pub mod Lines
pub mod Excerpt
