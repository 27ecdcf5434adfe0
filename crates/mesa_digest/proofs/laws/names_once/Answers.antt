use Rattle.mesa_digest.proofs.Orders.{named_once}
use Rattle.mesa_digest.proofs.laws.names_once.Goals as goal

pub returns : goal.returns
returns c = named_once
