mod Attaching
pub mod Counts
pub mod Retired
pub mod Openings
pub mod RowSums
pub mod Spares
