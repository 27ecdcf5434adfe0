use Rattle.mesa_schema.proofs.PresentRows.{lifted_more, lifted_now, present_folds, present_form, present_key, present_longer, present_rise}
use Rattle.mesa_schema.proofs.laws.lifts_to_present.Goals as goal

pub returns : goal.returns
returns c = record { folds = present_folds; form = present_form; keys = present_key; longer = present_longer; rise = present_rise; now = lifted_now; more = lifted_more }
