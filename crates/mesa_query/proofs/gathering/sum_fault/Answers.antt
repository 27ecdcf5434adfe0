use Rattle.std.proofs.Common.{◌≡◌, inr, subst}
use Rattle.mesa_group_blocks.specs.mesa_view.SumDamage.{IsSumDamage}
use Rattle.mesa_query.proofs.gathering.sum_fault.Goals as goal

pub returns-in-Ok-clause-damaged : goal.returns-in-Ok-clause-damaged
returns-in-Ok-clause-damaged g c = λ d e.
    let same : c.sum_damage.result ≡ d = cc in
    inr (c.in-Ok.file, c.in-Ok.ensures.newest, subst (IsSumDamage c.in-Ok.file) same c.sum_damage.ensures)
