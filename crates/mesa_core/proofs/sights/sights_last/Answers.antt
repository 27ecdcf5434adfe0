use Rattle.mesa_core.proofs.Lasting.{lasts}
use Rattle.mesa_core.proofs.sights.sights_last.Goals as goal

pub returns : goal.returns
returns c = lasts
