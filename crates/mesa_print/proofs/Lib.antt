pub mod Texts
pub mod HexText
pub mod RowTexts
pub mod Printing
