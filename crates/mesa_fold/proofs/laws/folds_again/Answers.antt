use Rattle.mesa_fold.proofs.Refolds.{refolded}
use Rattle.mesa_fold.proofs.laws.folds_again.Goals as goal

pub returns : goal.returns
returns c = refolded
