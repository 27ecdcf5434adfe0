use Rattle.mesa_catalog_records.specs.Named.{told_id}
use Rattle.mesa_catalog_records.proofs.Ids.{rise_each}
use Rattle.mesa_catalog_records.proofs.newness.singles_rise.Goals as goal

pub loop-single-preserved : goal.loop-single-preserved
loop-single-preserved c = rise_each told_id c.args.run c.args.above c.loop-single.last c.in_ok-last.last c.args.singles.now c.loop-single.single-index c.single-item.result c.loop-single-test.true c.single-item.is c.loop-single.invariant c.in_ok-last.ensures
