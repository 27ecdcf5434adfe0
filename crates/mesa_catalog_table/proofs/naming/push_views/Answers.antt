use Rattle.mesa_catalog_table.specs.Named.{view_id}
use Rattle.mesa_catalog_table.proofs.Pushes.{pushed_each, pushed_one}
use Rattle.mesa_catalog_table.proofs.naming.push_views.Goals as goal

pub loop-view-preserved : goal.loop-view-preserved
loop-view-preserved c = pushed_one view_id _ _ _ c.args.views.now c.loop-view.view-index c.view-item.result c.loop-view-test.true c.view-item.is c.loop-view.invariant c.in_ok-push.ensures.items

pub returns : goal.returns
returns c = pushed_each view_id _ _ c.args.views.now c.loop-view.view-index c.loop-view-test.false c.loop-view.invariant
