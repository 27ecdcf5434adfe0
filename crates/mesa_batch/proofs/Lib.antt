pub use Rattle.mesa_schema.proofs.mesa_columns as mesa_columns
pub use Rattle.mesa_schema.proofs.mesa_key as mesa_key
pub use Rattle.mesa_list.proofs as mesa_list
pub use Rattle.mesa_schema.proofs as mesa_schema
pub mod FewTotals
pub mod Fields
pub mod Finished
pub mod Flats
pub mod FoldedRows
pub mod Heads
pub mod Inserted
pub mod KeptTotals
pub mod LastTotals
pub mod LoadedRows
pub mod NameNumbers
pub mod ReadWords
pub mod Reordered
pub mod RowByRow
pub mod RowForms
pub mod SharedColumns
pub mod SumColumns
pub mod SumNames
pub mod Twice
pub mod Columns
pub mod Kept
pub mod Merged
pub mod Place
pub mod RecastTotals
pub mod Sums
