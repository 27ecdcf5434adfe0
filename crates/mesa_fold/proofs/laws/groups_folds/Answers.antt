use Rattle.mesa_fold.proofs.GroupedFolds.{groups_folded}
use Rattle.mesa_fold.proofs.laws.groups_folds.Goals as goal

pub returns : goal.returns
returns c = groups_folded
