pub mod Joined
pub mod Lists
pub mod Pieces
pub mod Splits
pub mod Whole
pub mod WideBytes
