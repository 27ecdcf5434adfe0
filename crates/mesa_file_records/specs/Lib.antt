pub use Rattle.mesa_engine.specs.mesa_history_spec as mesa_history_spec
pub use Rattle.mesa_pick_files.specs.mesa_key as mesa_key
pub use Rattle.mesa_list.specs as mesa_list
pub use Rattle.mesa_pick_files.specs.mesa_schema as mesa_schema
pub mod Batches
pub mod Adopted
pub mod Bounds
pub mod Published
pub mod Grown
pub mod Finished
pub mod Swapped
pub mod Recasts
