use Rattle.std.proofs.Common.{arith}
use Rattle.mesa_turn.proofs.Sharing.{joins}
use Rattle.mesa_turn.proofs.steps.merge.Goals as goal

pub join_seat-requires : goal.join_seat-requires
join_seat-requires g c = let words = c.requires.desk.2.0 in
    (c.requires.desk.0, c.requires.desk.1, c.requires.other_idle.1, omega arith, joins g.V.Turned.history c.args.desk.now.key _ _ _ _ c.requires.named c.requires.idle.0 c.requires.other_idle.0)
