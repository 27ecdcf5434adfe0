use Rattle.mesa_order.proofs.FurtherOrders.{answers_through}
use Rattle.mesa_order.proofs.laws.further_orders_answer.Goals as goal

pub returns : goal.returns
returns c = answers_through
