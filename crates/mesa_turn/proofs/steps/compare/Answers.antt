use Rattle.std.proofs.Common.{arith}
use Rattle.mesa_turn.proofs.Sharing.{compares_so}
use Rattle.mesa_turn.proofs.steps.compare.Goals as goal

pub load-requires : goal.load-requires
load-requires g c = let words = c.requires.desk.1.0 in (c.requires.desk.0, omega arith, compares_so g.V.Turned.history c.args.desk.now.key _ _ _ c.requires.idle.0)
