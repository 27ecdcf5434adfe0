use Rattle.mesa_table_records.specs.mesa_catalog_table.Named.{view_id}
use Rattle.mesa_catalog_records.proofs.Ids.{rise_each}
use Rattle.mesa_catalog_records.proofs.newness.views_rise.Goals as goal

pub loop-view-preserved : goal.loop-view-preserved
loop-view-preserved c = rise_each view_id c.args.run c.args.above c.loop-view.last c.in_ok-last.last c.args.views.now c.loop-view.view-index c.view-item.result c.loop-view-test.true c.view-item.is c.loop-view.invariant c.in_ok-last.ensures
