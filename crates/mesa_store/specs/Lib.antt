pub use Rattle.mesa_commit.specs as mesa_commit
pub use Rattle.mesa_commit.specs.mesa_io as mesa_io
pub use Rattle.mesa_store_spec.specs.mesa_key as mesa_key
pub mod Store
