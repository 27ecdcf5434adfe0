use Rattle.mesa_block.proofs.Lifting.{unmoved}
use Rattle.mesa_block.proofs.flat.Block.lifted.Goals as goal

pub returns-then-is_none : goal.returns-then-is_none
returns-then-is_none c = unmoved c.args.lift.now c.args.self c.if-is_none.ensures
