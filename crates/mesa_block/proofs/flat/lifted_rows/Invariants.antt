use Rattle.mesa_block.proofs.Lifting.{AreLifted}
use Rattle.mesa_block.proofs.flat.lifted_rows.Given as goal

abbrev pub invariant-loop-i : goal.invariant-loop-i
invariant-loop-i l = AreLifted l.count l.lift l.rows l.i l.keys l.values.items
