use Rattle.mesa_fold.proofs.GroupKeys.{groups_form, groups_rise}
use Rattle.mesa_fold.proofs.laws.groups_rise.Goals as goal

pub returns : goal.returns
returns c = record { rise = groups_rise; form = groups_form }
