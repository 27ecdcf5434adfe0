pub mod Orders
pub mod Placing
pub mod Spelling
pub mod AllColumns
pub mod Regrouped
pub mod Apart
