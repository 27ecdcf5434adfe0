use Rattle.mesa_catalog_records.specs.Named.{part_ids}
use Rattle.mesa_catalog_records.proofs.Ids.{rise_flat}
use Rattle.mesa_catalog_records.proofs.newness.parts_rise.Goals as goal

pub loop-part-preserved : goal.loop-part-preserved
loop-part-preserved c = rise_flat part_ids c.args.run c.args.above c.loop-part.last c.in_ok-last.last c.args.parts.now c.loop-part.part-index c.part-item.result c.loop-part-test.true c.part-item.is c.loop-part.invariant c.in_ok-last.ensures
