use Rattle.mesa_batch.proofs.LastTotals.{totals_last}
use Rattle.mesa_batch.proofs.laws.totals_last.Goals as goal

pub returns : goal.returns
returns c = totals_last
