use Rattle.mesa_fold.proofs.Forms.{folded_form}
use Rattle.mesa_fold.proofs.laws.folds_keep_form.Goals as goal

pub returns : goal.returns
returns c = folded_form
