use Rattle.std.proofs.Common.{◌∙◌, ◌∷◌, Some, sym, ap, arith}
use Rattle.atomic_table.specs.Table.{rest}
use Rattle.mesa_turn.specs.Steps.{number_of}
use Rattle.mesa_turn.proofs.Names.{some_name}
use Rattle.mesa_turn.proofs.Taking.{looks}
use Rattle.mesa_turn.proofs.steps.look.Goals as goal

pub load-requires : goal.load-requires
load-requires g c = let h = some_name c.args.seat.now.me.0.names c.requires.named in let words = c.requires.desk.1.0 in
    (c.requires.desk.0, omega arith, looks g.V.Turned.history c.args.desk.now.key _ _ h.0 c.args.ticket _ c.requires.drawn h.1)

pub exchange-requires : goal.exchange-requires
exchange-requires g c = let t = c.load.ensures.2.0 (c.if-load-ticket.true ∙ sym (ap number_of c.requires.drawn)) in let p = ap (λ m. m.1) t.1 in
    (c.load.ensures.0 ∙ c.requires.desk.0, (Some t.0, p ∙ ap (λ l. (0, Some t.0) ∷ l) (sym (ap rest p))))
