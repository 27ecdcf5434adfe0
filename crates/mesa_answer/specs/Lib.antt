pub use Rattle.mesa_model.specs.mesa_columns as mesa_columns
pub use Rattle.mesa_model.specs.mesa_fold as mesa_fold
pub use Rattle.mesa_key.specs as mesa_key
pub mod Answering
pub mod Gathered
pub mod Gathering
pub mod Held
pub mod Regrouping
pub mod Sums
pub mod Window
