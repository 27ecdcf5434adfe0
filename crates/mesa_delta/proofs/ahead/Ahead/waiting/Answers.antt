use Rattle.std.proofs.Common.{sym, ◌∙◌, arith}
use Rattle.mesa_delta.proofs.Waiting.{none_waits}
use Rattle.mesa_delta.proofs.ahead.Ahead.waiting.Goals as goal

pub returns-then-self-clause-none : goal.returns-then-self-clause-none
returns-then-self-clause-none c =
    let a = c.self.inside in
    sym c.self.view_is ∙ none_waits a.slots.items a.taken a.filled c.self.invariant.1 (omega arith)
