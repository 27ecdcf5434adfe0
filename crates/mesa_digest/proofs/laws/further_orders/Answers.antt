use Rattle.mesa_digest.proofs.Apart.{further_order}
use Rattle.mesa_digest.proofs.laws.further_orders.Goals as goal

pub returns : goal.returns
returns c = further_order
