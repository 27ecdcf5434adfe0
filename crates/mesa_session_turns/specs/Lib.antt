pub use Rattle.mesa_core.specs as mesa_core
pub use Rattle.mesa_filter.specs as mesa_filter
pub use Rattle.mesa_core.specs.mesa_fold as mesa_fold
pub use Rattle.mesa_core.specs.mesa_history_laws as mesa_history_laws
pub use Rattle.mesa_core.specs.mesa_history_spec as mesa_history_spec
pub use Rattle.mesa_core.specs.mesa_invariant_spec as mesa_invariant_spec
pub use Rattle.mesa_core.specs.mesa_schema as mesa_schema
pub mod Loads
