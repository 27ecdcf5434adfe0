use Rattle.mesa_fold.proofs.FilteredFolds.{filtered_folds}
use Rattle.mesa_fold.proofs.Forms.{folds_full}
use Rattle.mesa_fold.proofs.RisingRows.{folded_rise}
use Rattle.mesa_fold.proofs.SameFolds.{same_folds}
use Rattle.mesa_fold.proofs.laws.folds_by_key.Goals as goal

pub returns : goal.returns
returns c = record { same = same_folds; rise = folded_rise; full = folds_full; filtered = filtered_folds }
