pub use Rattle.mesa_value.proofs.mesa_list as mesa_list
pub mod Columns
pub mod Cuts
pub mod Eights
pub mod IntOrder
pub mod KeyOrder
pub mod Keys
pub mod Reading
pub mod SpellingOrder
pub mod Utf8
pub mod Vectors
pub mod Zeros
