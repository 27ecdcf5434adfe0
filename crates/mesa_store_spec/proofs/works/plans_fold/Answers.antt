use Rattle.mesa_store_spec.proofs.Plans.{planned_folds}
use Rattle.mesa_store_spec.proofs.works.plans_fold.Goals as goal

pub returns : goal.returns
returns g rows floor next t version shaped sound_rows = planned_folds rows floor next t shaped sound_rows version
