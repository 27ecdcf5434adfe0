pub use Rattle.mesa_answer.specs.mesa_columns as mesa_columns
pub use Rattle.mesa_answer.specs.mesa_fold as mesa_fold
pub mod Kept
pub mod Sound
pub mod Grown
pub mod Found
