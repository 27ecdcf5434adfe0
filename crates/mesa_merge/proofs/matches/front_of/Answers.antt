use Rattle.std.proofs.Common.{◌^◌, ◌-◌, refl, sym, subst}
use Rattle.mesa_merge.specs.Fronts.{HasFront}
use Rattle.mesa_merge.proofs.matches.front_of.Goals as goal

pub returns-in-Some : goal.returns-in-Some
returns-in-Some c = subst (HasFront c.front.result) (sym c.in-Some.ensures.some.1) c.front.ensures

pub returns-in-None : goal.returns-in-None
returns-in-None c = subst (HasFront (2 ^ 128 - 1)) (sym c.in-None.ensures.none) refl
