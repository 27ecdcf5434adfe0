pub mod Commands
pub mod Gathers
pub mod Namings
pub mod Pinnings
pub mod Tokens
pub mod Viewed
pub mod Queries
