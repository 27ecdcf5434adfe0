use Rattle.mesa_schema.proofs.Carrying.{carries_folds, carries_form}
use Rattle.mesa_schema.proofs.laws.rows_are_carried.Goals as goal

pub returns : goal.returns
returns c = record { folds = carries_folds; form = carries_form }
