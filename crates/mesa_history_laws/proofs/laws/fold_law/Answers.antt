use Rattle.mesa_history_laws.proofs.FoldLaw.{law_holds}
use Rattle.mesa_history_laws.proofs.laws.fold_law.Goals as goal

pub returns : goal.returns
returns c = law_holds
