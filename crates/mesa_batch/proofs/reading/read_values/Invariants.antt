use Rattle.mesa_batch.proofs.Fields.{AreRead}
use Rattle.mesa_batch.proofs.reading.read_values.Given as goal

-- the columns so far are read, and the others come after them
abbrev pub invariant-columns : goal.invariant-columns
invariant-columns l = AreRead l.columns l.fields l.first l.place l.values.items
