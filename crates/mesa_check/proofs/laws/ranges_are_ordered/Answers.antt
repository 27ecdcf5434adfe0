use Rattle.mesa_check.proofs.InOrder.{ranges_ordered}
use Rattle.mesa_check.proofs.laws.ranges_are_ordered.Goals as goal

pub returns : goal.returns
returns c = ranges_ordered
