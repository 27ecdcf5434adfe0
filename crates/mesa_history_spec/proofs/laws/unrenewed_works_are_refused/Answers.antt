use Rattle.mesa_history_spec.proofs.Renewals.{renewal-early}
use Rattle.mesa_history_spec.proofs.laws.unrenewed_works_are_refused.Goals as goal

pub returns : goal.returns
returns c = renewal-early
