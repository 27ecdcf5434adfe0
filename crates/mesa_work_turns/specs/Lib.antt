pub use Rattle.mesa_read_turns.specs.mesa_answer as mesa_answer
pub use Rattle.mesa_write_turns.specs.mesa_binding as mesa_binding
pub use Rattle.mesa_read_turns.specs.mesa_catalog_table as mesa_catalog_table
pub use Rattle.mesa_write_turns.specs.mesa_columns as mesa_columns
pub use Rattle.mesa_copy.specs.mesa_compact as mesa_compact
pub use Rattle.mesa_copy.specs as mesa_copy
pub use Rattle.mesa_write_turns.specs.mesa_file_records as mesa_file_records
pub use Rattle.mesa_write_turns.specs.mesa_history_spec as mesa_history_spec
pub use Rattle.mesa_write_turns.specs.mesa_invariant_spec as mesa_invariant_spec
pub use Rattle.mesa_write_turns.specs.mesa_key as mesa_key
pub use Rattle.mesa_read_turns.specs.mesa_merge as mesa_merge
pub use Rattle.mesa_read_turns.specs.mesa_pick_files as mesa_pick_files
pub use Rattle.mesa_read_turns.specs.mesa_query as mesa_query
pub use Rattle.mesa_read_turns.specs as mesa_read_turns
pub use Rattle.mesa_write_turns.specs.mesa_schema as mesa_schema
pub use Rattle.mesa_write_turns.specs.mesa_script as mesa_script
pub use Rattle.mesa_write_turns.specs as mesa_write_turns
pub mod Claims
pub mod Unmerged
pub mod Merged
pub mod Swept
