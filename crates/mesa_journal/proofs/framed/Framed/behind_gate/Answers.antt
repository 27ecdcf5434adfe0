use Rattle.mesa_journal.proofs.framed.Framed.behind_gate.Goals as goal

pub returns-clause-body : goal.returns-clause-body
returns-clause-body c = c.frame.ensures.body
