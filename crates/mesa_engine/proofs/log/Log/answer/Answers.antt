use Rattle.std.proofs.Common.{◌++◌, not, subst}
use Rattle.mesa_engine.specs.Printing.{GoesOn, page_text}
use Rattle.mesa_engine.proofs.Printing.{gives}
use Rattle.mesa_model.specs.declared.replies.Reply.TheVariants as reply
use Rattle.mesa_script.specs.Replies.{head_line}
use Rattle.mesa_invariant_spec.specs.Printing.{IsPut}
use Rattle.mesa_engine.proofs.log.Log.answer.Goals as goal

pub returns-clause-put : goal.returns-clause-put
returns-clause-put g c =
    let turn = c.args.turn in
    let page = c.args.page.now in
    subst (λ p. IsPut (page_text turn c.args.at c.args.version page) (not c.put_block.new.self.broken) (g.K.Sink.held p.sink) (g.K.Sink.held c.put_block.new.self.sink)) c.pass.ensures.printer
    (subst (λ body. IsPut (head_line turn.session turn.command c.args.at (reply.Rows page.rows c.args.version page.more) ++ body) (not c.put_block.new.self.broken) (g.K.Sink.held c.pass.new.self.printer.sink) (g.K.Sink.held c.put_block.new.self.sink)) c.as_slice-body.ensures
    (gives g.K.Sink.held g.K.Sink.faults c.pass.new.self.printer c.put_block.new.self _ c.put_block.ensures).0)

pub returns-clause-goes : goal.returns-clause-goes
returns-clause-goes g c =
    subst (λ p. GoesOn g.K.Sink.faults p c.put_block.new.self) c.pass.ensures.printer
    (gives g.K.Sink.held g.K.Sink.faults c.pass.new.self.printer c.put_block.new.self _ c.put_block.ensures).1
