use Rattle.std.proofs.Common.{false, ◌∙◌}
use Rattle.mesa_engine.proofs.engine.Engine.run.Goals as goal

pub returns-clause-origin : goal.returns-clause-origin
returns-clause-origin g c w = c.run.ensures.number ∙ (c.self.invariant.vault w false (λ is. absurd cc)).counts.run
