use Rattle.std.proofs.Common.{◌≡◌, false, subst}
use Rattle.mesa_invariant_spec.specs.mesa_history_spec.Refused.{some_refused}
use Rattle.mesa_invariant_spec.specs.mesa_history_spec.Run.{begins}
use Rattle.mesa_engine.specs.Engine.{Standing}
use Rattle.mesa_engine.proofs.engine.Engine.refused.Goals as goal

pub returns : goal.returns
returns g c w =
    subst (λ (s : Standing). c.self.inside.log.refused ≡ some_refused g.N.Naming.script (begins (g.N.Naming.start w)) s.shown.history) c.self.view_is
    (c.self.invariant.vault w false (λ is. absurd cc)).invariant.told
