use Rattle.std.proofs.Common.{subst}
use Rattle.mesa_invariant_spec.specs.mesa_history_spec.Run.{Told}
use Rattle.mesa_engine.specs.Printing.{PrintsBlock}
use Rattle.mesa_engine.proofs.Printing.{tells}
use Rattle.mesa_engine.proofs.log.Log.tell.Goals as goal

pub returns-clause-told : goal.returns-clause-told
returns-clause-told g c heading is =
    let told : Told = record { at = c.args.at; reply = c.args.reply.now; heading = heading } in
    subst (λ p. PrintsBlock g.K.Sink.held g.K.Sink.faults p c.put_block.new.self c.args.turn told) c.pass.ensures.printer
    (tells g.K.Sink.held g.K.Sink.faults c.pass.new.self.printer c.put_block.new.self c.args.turn told c.args.body.now is c.put_block.ensures)
