use Rattle.mesa_filter.proofs.PlacesAmong.{among_none, among_some}
use Rattle.std.proofs.Common.{sym, ◌∙◌}
use Rattle.mesa_filter.proofs.among.place_among.Goals as goal

pub returns-in-Some : goal.returns-in-Some
returns-in-Some c = among_some c.args.places.now c.args.place c.in-Some.at (sym c.first_at.ensures.first ∙ c.in-Some.is)

pub returns-in-None : goal.returns-in-None
returns-in-None c = among_none c.args.places.now c.args.place (sym c.first_at.ensures.first ∙ c.in-None.is)
