pub use Rattle.mesa_pick_files.specs.mesa_block as mesa_block
pub use Rattle.mesa_catalog_table.specs as mesa_catalog_table
pub use Rattle.mesa_delta.specs.mesa_delta_format as mesa_delta_format
pub use Rattle.mesa_compare.specs.mesa_examine as mesa_examine
pub mod Found
pub mod Ranges
pub mod Faults
pub mod Verdict
pub mod Laws
pub mod Held
pub mod Counted
pub mod Tested
pub mod Shown
pub mod Parts
