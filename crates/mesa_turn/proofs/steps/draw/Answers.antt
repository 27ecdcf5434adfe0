use Rattle.std.proofs.Common.{arith}
use Rattle.mesa_turn.proofs.Names.{some_name}
use Rattle.mesa_turn.proofs.Taking.{draws}
use Rattle.mesa_turn.proofs.steps.draw.Goals as goal

pub fetch_add-requires : goal.fetch_add-requires
fetch_add-requires g c = let h = some_name c.args.seat.now.me.0.names c.requires.named in let words = c.requires.desk.1.0 in
    (c.requires.desk.0, omega arith, draws g.V.Turned.history c.args.desk.now.key _ _ h.0 _ c.requires.idle h.1 c.requires.room)
