use Rattle.std.proofs.Common.{◌∙◌, sym}
use Rattle.mesa_filter.proofs.Fronts.{front_all, front_ends}
use Rattle.mesa_filter.proofs.parsing.front_name.Goals as goal

pub returns-in-Some-clause-name : goal.returns-in-Some-clause-name
returns-in-Some-clause-name c = front_ends _ _ (sym c.name_end.ensures ∙ c.in-Some.is)

pub returns-in-None-clause-name : goal.returns-in-None-clause-name
returns-in-None-clause-name c = front_all _ (sym c.name_end.ensures ∙ c.in-None.is)
