use Rattle.std.proofs.Common.{◌∙◌, ap, take, drop}
use Rattle.mesa_delta.proofs.Waiting.{one_less}
use Rattle.mesa_delta.proofs.ahead.Ahead.step.Goals as goal

pub returns-then-self : goal.returns-then-self
returns-then-self c = one_less c.self.inside.taken (take c.self.inside.filled c.self.inside.slots.items) ∙ ap (drop 1) c.self.view_is
