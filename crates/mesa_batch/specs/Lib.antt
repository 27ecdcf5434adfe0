pub use Rattle.mesa_schema.specs.mesa_fold as mesa_fold
pub use Rattle.mesa_schema.specs.mesa_key as mesa_key
pub use Rattle.mesa_list.specs as mesa_list
pub use Rattle.mesa_schema.specs as mesa_schema
pub use Rattle.mesa_schema.specs.mesa_value as mesa_value
pub mod Batch
pub mod Flat
pub mod Gathered
pub mod Glance
pub mod Heads
pub mod Load
pub mod Laws
pub mod Numbers
pub mod Reading
pub mod Shared
pub mod Totals
pub mod Bound
pub mod Put
