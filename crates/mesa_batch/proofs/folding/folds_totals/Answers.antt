use Rattle.mesa_batch.proofs.Merged.{folds_totals}
use Rattle.mesa_batch.proofs.folding.folds_totals.Goals as goal

pub returns : goal.returns
returns c = folds_totals
