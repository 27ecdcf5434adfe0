use Rattle.mesa_schema.proofs.Forms.{lifted_form, lifts_folded}
use Rattle.mesa_schema.proofs.laws.lifts_folds.Goals as goal

pub returns : goal.returns
returns c = record { folds = lifts_folded; lifted_form = lifted_form }
