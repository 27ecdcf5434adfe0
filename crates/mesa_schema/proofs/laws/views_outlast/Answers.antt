use Rattle.mesa_schema.proofs.Outlasting.{outlasts}
use Rattle.mesa_schema.proofs.laws.views_outlast.Goals as goal

pub returns : goal.returns
returns c = outlasts
