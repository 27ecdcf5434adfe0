pub use Rattle.mesa_work_turns.specs.mesa_answer as mesa_answer
pub use Rattle.mesa_work_turns.specs.mesa_columns as mesa_columns
pub use Rattle.mesa_work_turns.specs.mesa_compact as mesa_compact
pub use Rattle.mesa_work_turns.specs.mesa_copy as mesa_copy
pub use Rattle.mesa_work_turns.specs.mesa_file_records as mesa_file_records
pub use Rattle.mesa_work_turns.specs.mesa_history_spec as mesa_history_spec
pub use Rattle.mesa_work_turns.specs.mesa_invariant_spec as mesa_invariant_spec
pub use Rattle.mesa_lease.specs as mesa_lease
pub use Rattle.mesa_list.specs as mesa_list
pub use Rattle.mesa_work_turns.specs.mesa_merge as mesa_merge
pub use Rattle.mesa_work_turns.specs.mesa_pick_files as mesa_pick_files
pub use Rattle.mesa_work_turns.specs.mesa_query as mesa_query
pub use Rattle.mesa_work_turns.specs.mesa_read_turns as mesa_read_turns
pub use Rattle.mesa_work_turns.specs.mesa_schema as mesa_schema
pub use Rattle.mesa_work_turns.specs as mesa_work_turns
pub use Rattle.mesa_work_turns.specs.mesa_write_turns as mesa_write_turns
pub mod Unfit
pub mod Rested
