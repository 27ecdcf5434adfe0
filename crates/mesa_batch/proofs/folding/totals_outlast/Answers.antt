use Rattle.mesa_batch.proofs.RecastTotals.{totals_count, totals_last}
use Rattle.mesa_batch.proofs.folding.totals_outlast.Goals as goal

pub returns : goal.returns
returns c = record { bound = λ s r parts totals is rows most. totals_last s r is parts totals rows most; kept = λ s r totals is. totals_count s r is totals }
