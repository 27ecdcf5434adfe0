use Rattle.std.proofs.Common.{sym, ◌∙◌}
use Rattle.mesa_block.proofs.Made.{order_begins, order_done, order_goes_on}
use Rattle.mesa_block.proofs.checking.disordered.Goals as goal

pub returns-in_default : goal.returns-in_default
returns-in_default c = order_done c.args.rows.now (sym c.keys-keys.ensures ∙ sym c.view-left.ensures ∙ c.in_default.ensures)

pub loop-key-init : goal.loop-key-init
loop-key-init c = order_begins c.args.rows.now c.in-Some.before.now c.take_next.new.self (sym c.keys-keys.ensures ∙ sym c.view-left.ensures ∙ c.in-Some.ensures)

pub loop-key-preserved : goal.loop-key-preserved
loop-key-preserved c = order_goes_on c.args.rows.now c.loop-key.before.now c.in-Some-take_next.key.now c.loop-key.left c.take_next-in-loop-key.new.self c.loop-key.invariant c.in-Some-take_next.ensures c.if-not-rises.ensures
