use Rattle.mesa_query.proofs.Ungrouped.{ungrouped}
use Rattle.mesa_query.proofs.laws.views_fold_ungrouped.Goals as goal

pub returns : goal.returns
returns c = λ table v before rows after. ungrouped table v before rows after
