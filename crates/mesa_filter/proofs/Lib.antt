pub use Rattle.mesa_fold.proofs as mesa_fold
pub use Rattle.mesa_list.proofs as mesa_list
pub mod PlacesAmong
pub mod Forms
pub mod Fronts
pub mod HexDigits
pub mod Joins
pub mod PlacesAsked
pub mod Pruning
pub mod Refusals
pub mod ResumeKeys
pub mod ShortColumns
pub mod Steps
pub mod Texts
pub mod ValueOrder
pub mod Walks
