use Rattle.mesa_split.proofs.Joined.{parts_fold, parts_rise}
use Rattle.mesa_split.proofs.laws.parts_join.Goals as goal

pub returns : goal.returns
returns c = record { rise = parts_rise; fold = parts_fold }
