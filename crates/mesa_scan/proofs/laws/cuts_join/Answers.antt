use Rattle.mesa_scan.proofs.Cutting.{cuts_fold, cuts_whole, cut_none, folds_join}
use Rattle.mesa_scan.proofs.laws.cuts_join.Goals as goal

pub returns : goal.returns
returns c = record { folds = cuts_fold; whole = cuts_whole; none = cut_none; join = folds_join }
