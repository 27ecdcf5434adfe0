use Rattle.std.proofs.Common.{map, take}
use Rattle.mesa_table_records.specs.mesa_catalog_table.Named.{view_id}
use Rattle.mesa_catalog_records.specs.Named.{RiseTo}
use Rattle.mesa_catalog_records.proofs.newness.views_rise.Given as goal

abbrev pub invariant-loop-view : goal.invariant-loop-view
invariant-loop-view l = RiseTo l.run l.above (map view_id (take l.view-index l.views)) l.last
