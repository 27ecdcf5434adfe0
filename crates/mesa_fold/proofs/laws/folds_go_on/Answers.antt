use Rattle.mesa_fold.proofs.SameFolds.{puts_given, puts_one}
use Rattle.mesa_fold.proofs.laws.folds_go_on.Goals as goal

pub returns : goal.returns
returns c = record { one = puts_one; given = puts_given }
