use Rattle.std.proofs.Common.{sym, ◌∙◌}
use Rattle.mesa_work_turns.proofs.RecastClaims.{none_before, some_before}
use Rattle.mesa_work_turns.proofs.recast_claiming.versions.Goals as goal

pub returns-in-Some : goal.returns-in-Some
returns-in-Some c = some_before c.args.catalog.now.catalogue.next c.in-Some.newest (sym c.newest.ensures ∙ c.in-Some.is)

pub returns-in-None : goal.returns-in-None
returns-in-None c = none_before c.args.catalog.now.catalogue.next (sym c.newest.ensures ∙ c.in-None.is)
