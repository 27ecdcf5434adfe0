use Rattle.std.proofs.Common.{◌≤◌, map, take}
use Rattle.std.specs.List.{AllByRecursion}
use Rattle.mesa_table_records.specs.mesa_catalog_table.Named.{view_id}
use Rattle.mesa_catalog_records.proofs.newness.greatest_in_views.Given as goal

abbrev pub invariant-loop-view : goal.invariant-loop-view
invariant-loop-view l = record {
  least : l.least ≤ l.greatest;
  all : AllByRecursion (λ id. id ≤ l.greatest) (map view_id (take l.view-index l.views));
}
