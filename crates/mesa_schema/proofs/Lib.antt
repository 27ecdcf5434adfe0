pub use Rattle.mesa_columns.proofs as mesa_columns
pub use Rattle.mesa_fold.proofs as mesa_fold
pub use Rattle.mesa_fold.proofs.mesa_key as mesa_key
pub mod Apart
pub mod ChangeChecks
pub mod Carrying
pub mod Choices
pub mod ChosenAgain
pub mod ChosenColumns
pub mod Forms
pub mod LineageChanges
pub mod LineageRecasts
pub mod LineageRules
pub mod Outlasting
pub mod Passing
pub mod PresentRows
pub mod Recasting
pub mod Regrouping
pub mod RisingRows
pub mod SchemaChanges
pub mod ViewChanges
pub mod ViewSchemas
