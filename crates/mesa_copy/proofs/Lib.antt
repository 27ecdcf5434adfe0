mod Caused
pub mod Numbering
pub mod Rewriting
pub mod Counting
pub mod Same
pub mod Lending
pub mod Mapping
