mod Numbers
mod SeedsRead
pub mod Behind
pub mod Breaks
pub mod Checks
pub mod Names
pub mod Short
pub mod Blocks
pub mod Turn
pub mod Cutting
pub mod Plain
pub mod Reading
pub mod LastRecords
pub mod Records
