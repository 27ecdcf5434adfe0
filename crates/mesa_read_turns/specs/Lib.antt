pub use Rattle.mesa_pick_files.specs.mesa_answer as mesa_answer
pub use Rattle.mesa_pick_files.specs.mesa_catalog_table as mesa_catalog_table
pub use Rattle.mesa_pick_files.specs.mesa_merge as mesa_merge
pub use Rattle.mesa_pick_files.specs as mesa_pick_files
pub use Rattle.mesa_pick_files.specs.mesa_query as mesa_query
pub use Rattle.mesa_pick_files.specs.mesa_value as mesa_value
pub mod Closing
pub mod Opening
pub mod Seeing
