use Rattle.mesa_span.proofs.Least.{plan_spans, plan_is_least}
use Rattle.mesa_span.proofs.plans.plans_are_least.Goals as goal

pub returns : goal.returns
returns c r v rise within = (plan_spans r v rise within, plan_is_least r v rise)
