use Rattle.mesa_dir.proofs.store.Store.adopt.Goals as goal

pub returns-in-Some-clause-untried : goal.returns-in-Some-clause-untried
returns-in-Some-clause-untried g c = rw c.in-Some.is c.adopt.ensures.untried
