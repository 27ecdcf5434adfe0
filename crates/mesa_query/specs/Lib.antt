pub use Rattle.mesa_group_blocks.specs as mesa_group_blocks
pub use Rattle.mesa_group_blocks.specs.mesa_answer as mesa_answer
pub use Rattle.mesa_group_blocks.specs.mesa_block as mesa_block
pub use Rattle.mesa_group_blocks.specs.mesa_columns as mesa_columns
pub use Rattle.mesa_group_blocks.specs.mesa_key as mesa_key
pub use Rattle.mesa_group_blocks.specs.mesa_merge as mesa_merge
pub use Rattle.mesa_group_blocks.specs.mesa_scan as mesa_scan
pub use Rattle.mesa_model.specs.mesa_value as mesa_value
pub mod Relation
pub mod Whole
pub mod Files
pub mod Sums
pub mod Laws
pub mod Cooled
pub mod Same
pub mod Kept
