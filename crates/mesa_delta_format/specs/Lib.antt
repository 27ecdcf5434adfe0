pub use Rattle.mesa_block.specs as mesa_block
pub use Rattle.mesa_columns.specs as mesa_columns
pub use Rattle.mesa_file.specs as mesa_file
pub use Rattle.mesa_fold.specs as mesa_fold
pub use Rattle.mesa_block.specs.mesa_key as mesa_key
pub use Rattle.mesa_block.specs.mesa_value as mesa_value
pub mod Spread
pub mod File
pub mod Tail
pub mod Summary
pub mod Totals
pub mod Tallies
pub mod Seeking
pub mod Beginning
pub mod Places
pub mod Indexed
pub mod Packing
