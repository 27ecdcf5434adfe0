use Rattle.mesa_answer.proofs.held.last_place.Goals as goal

pub returns-in-Some : goal.returns-in-Some
returns-in-Some c = (_, c.in-Some.ensures.last)
