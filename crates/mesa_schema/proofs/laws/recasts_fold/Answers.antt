use Rattle.mesa_schema.proofs.LineageRecasts.{lineage_recast, recast_goes_on}
use Rattle.mesa_schema.proofs.Recasting.{recast_folds, recast_form, recast_rise}
use Rattle.mesa_schema.proofs.laws.recasts_fold.Goals as goal

pub returns : goal.returns
returns c = record { folds = recast_folds; form = recast_form; rise = recast_rise; lineages = lineage_recast; goes_on = recast_goes_on }
