-- The order in which a query is read.
use Rattle.std.specs.Prelude.{ℕ, Option, Some, None, slice_get}
use Rattle.mesa_catalog.specs.mesa_columns.declared.views.View.{View}
use Rattle.mesa_schema.specs.Changes.{Lineage, columns_of}
use Rattle.mesa_model.specs.Orders.{choice}
use Rattle.mesa_order.specs.Order.{query_through}
use Rattle.mesa_validate.specs.declared.found.Found.{Found}

abbrev pub through_view : Lineage → Found → ℕ → Option View → Found
through_view l f number None = f
through_view l f number (Some v) = record { relation = record { table = f.relation.table; view = Some number }; query = query_through (columns_of l) v f.query }

-- what is found, asked of the view of a number where there is one
abbrev pub through_order : Lineage → Found → Option ℕ → Found
through_order l f None = f
through_order l f (Some number) = through_view l f number (slice_get l.views number)

abbrev pub read_of : Lineage → Found → Option ℕ → Found
read_of l f None = through_order l f (choice (columns_of l) l.views f.query.asked.values f.query.asked.terms)
read_of l f (Some view) = f

-- What is found, as it is read: a query of a table by the order that is chosen for it, a query of a view by that view.
abbrev pub as_read : Lineage → Found → Found
as_read l f = read_of l f f.relation.view
