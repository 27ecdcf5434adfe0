pub use Rattle.mesa_catalog.specs.mesa_batch as mesa_batch
pub use Rattle.mesa_catalog.specs as mesa_catalog
pub use Rattle.mesa_catalog.specs.mesa_catalog_records as mesa_catalog_records
pub use Rattle.mesa_catalog.specs.mesa_columns as mesa_columns
pub use Rattle.mesa_catalog.specs.mesa_commit as mesa_commit
pub use Rattle.mesa_filter.specs as mesa_filter
pub use Rattle.mesa_catalog.specs.mesa_history_spec as mesa_history_spec
pub use Rattle.mesa_list.specs as mesa_list
pub use Rattle.mesa_model.specs as mesa_model
pub use Rattle.mesa_order.specs as mesa_order
pub use Rattle.mesa_catalog.specs.mesa_store_spec as mesa_store_spec
pub mod Seen
pub mod Ruled
pub mod Found
pub mod Ordered
pub mod Recastings
