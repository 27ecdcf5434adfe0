pub mod AllAsked
pub mod Newest
pub mod Content
