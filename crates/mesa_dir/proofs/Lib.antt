pub mod Steps
pub mod Trusted
pub mod Digits
