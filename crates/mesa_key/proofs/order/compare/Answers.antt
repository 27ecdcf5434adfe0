use Rattle.mesa_key.proofs.Eights.{eights_apart, eights_same}
use Rattle.mesa_key.proofs.order.compare.Goals as goal

pub eights-preserved : goal.eights-preserved
eights-preserved c = eights_same c.eights.a.now c.eights.b.now c.args.a.now c.args.b.now c.compare_eights.result c.compare_eights.ensures c.in-Equal.is c.eights.invariant

pub returns-in_default : goal.returns-in_default
returns-in_default c = eights_apart c.eights.a.now c.eights.b.now c.args.a.now c.args.b.now c.compare_eights.result c.compare_eights.ensures c.in_default.not-Equal c.eights.invariant
