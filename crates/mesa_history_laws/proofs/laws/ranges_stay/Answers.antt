use Rattle.mesa_history_laws.proofs.Ranges.{ranges_hold}
use Rattle.mesa_history_laws.proofs.laws.ranges_stay.Goals as goal

pub returns : goal.returns
returns c = ranges_hold
