use Rattle.std.proofs.Common.{◌≡◌, ◌+◌, false, ◌∙◌, subst}
use Rattle.mesa_invariant_spec.specs.mesa_history_spec.Run.{begins}
use Rattle.mesa_invariant_spec.specs.Sight.{schema_changes}
use Rattle.mesa_engine.specs.Engine.{Standing}
use Rattle.mesa_engine.proofs.engine.Engine.generation.Goals as goal

pub returns : goal.returns
returns g c w =
    subst (λ (s : Standing). c.generation.result ≡ (g.N.Naming.origin w).generation + schema_changes g.N.Naming.script (begins (g.N.Naming.start w)) s.shown.history) c.self.view_is
    (c.generation.ensures.state ∙ (c.self.invariant.vault w false (λ is. absurd cc)).counts.generation)
