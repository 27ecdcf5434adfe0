use Rattle.mesa_schema.proofs.ViewChanges.{views_outlive}
use Rattle.mesa_schema.proofs.laws.views_outlive.Goals as goal

pub returns : goal.returns
returns c = λ l change is rule. views_outlive l change rule is.views
