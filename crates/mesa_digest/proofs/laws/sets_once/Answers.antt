use Rattle.mesa_digest.proofs.Orders.{sets_once}
use Rattle.mesa_digest.proofs.laws.sets_once.Goals as goal

pub returns : goal.returns
returns c = sets_once
