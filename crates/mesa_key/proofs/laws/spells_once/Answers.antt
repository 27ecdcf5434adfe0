use Rattle.mesa_key.proofs.Keys.{spelled_once}
use Rattle.mesa_key.proofs.laws.spells_once.Goals as goal

pub returns : goal.returns
returns c = spelled_once
