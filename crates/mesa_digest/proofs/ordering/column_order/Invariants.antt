use Rattle.std.proofs.Common.{◌≡◌, ◌<◌, map, take}
use Rattle.std.specs.List.{AllByRecursion}
use Rattle.mesa_columns.specs.declared.rows.Row.{Row}
use Rattle.mesa_columns.specs.Rows.{IsRowOf}
use Rattle.mesa_digest.specs.Digests.{cells, in_order}
use Rattle.mesa_digest.specs.Places.{cell_at}
use Rattle.mesa_digest.proofs.ordering.column_order.Given as goal

-- the columns so far are in their order
abbrev pub invariant-places : goal.invariant-places
invariant-places l = record {
  within : AllByRecursion (λ p. p < l.place) l.order.items;
  columns : (row : Row) → IsRowOf l.schema row → map (cell_at l.schema row) l.order.items ≡ in_order (take l.place (cells l.schema row));
}
