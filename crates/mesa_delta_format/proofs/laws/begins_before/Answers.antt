use Rattle.mesa_delta_format.proofs.Beginning.{begins}
use Rattle.mesa_delta_format.proofs.laws.begins_before.Goals as goal

pub returns : goal.returns
returns c = begins
