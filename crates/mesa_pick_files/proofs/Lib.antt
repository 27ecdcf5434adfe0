pub use Rattle.mesa_validate.proofs.mesa_catalog_records as mesa_catalog_records
pub use Rattle.mesa_query.proofs.mesa_fold as mesa_fold
pub use Rattle.mesa_schema.proofs as mesa_schema
pub use Rattle.mesa_span.proofs as mesa_span
pub mod Parted
pub mod Longest
pub mod Lending
pub mod Filing
pub mod Among
pub mod Cumulative
pub mod Viewing
pub mod Joined
mod Parting
pub mod Ranging
pub mod Opened
pub mod Reading
pub mod Given
pub mod Folds
pub mod Sums
pub mod Bounds
pub mod Unsound
pub mod Telling
pub mod Ordered
pub mod Contents
pub mod There
