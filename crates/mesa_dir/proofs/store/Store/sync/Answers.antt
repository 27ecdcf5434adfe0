use Rattle.mesa_dir.proofs.store.Store.sync.Goals as goal

pub returns-in-Some-clause-untried : goal.returns-in-Some-clause-untried
returns-in-Some-clause-untried g c = rw c.in-Some.is c.sync.ensures.untried
