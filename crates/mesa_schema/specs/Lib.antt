pub use Rattle.mesa_columns.specs as mesa_columns
pub use Rattle.mesa_fold.specs as mesa_fold
pub use Rattle.mesa_fold.specs.mesa_key as mesa_key
pub use Rattle.mesa_fold.specs.mesa_list as mesa_list
pub use Rattle.mesa_fold.specs.mesa_value as mesa_value
pub mod Changes
pub mod Views
pub mod Lineages
pub mod Lifting
pub mod Recasts
pub mod Carried
pub mod Laws
