use Rattle.mesa_merge.proofs.Ending.{all_told}
use Rattle.mesa_merge.proofs.laws.all_are_told.Goals as goal

pub returns : goal.returns
returns c = λ knowns givens contents all told. all_told knowns givens contents all told
