use Rattle.mesa_fold.proofs.WholeGroups.{groups_whole, one_key}
use Rattle.mesa_fold.proofs.laws.groups_whole.Goals as goal

pub returns : goal.returns
returns c = record { keys = one_key; folds = groups_whole }
