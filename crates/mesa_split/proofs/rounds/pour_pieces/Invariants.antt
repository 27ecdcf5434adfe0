use Rattle.std.proofs.Common.{◌+◌, ◌-◌, length}
use Rattle.mesa_split.proofs.Running.{Runs}
use Rattle.mesa_split.proofs.rounds.pour_pieces.Given as goal

abbrev pub invariant-rounds : goal.invariant-rounds
invariant-rounds g l = Runs g.D.Draft.bytes g.D.Draft.id_of g.D.Draft.faults g.R.FileReader.bytes g.R.FileReader.faults g.R.FileReader.size l.schema l.keys l.newest l.fn.parts l.fn.writer l.fn.draft l.fn.groups.items l.parts l.writer l.draft l.groups.items l.first l.held.items l.some

abbrev pub decreases-rounds : goal.decreases-rounds
decreases-rounds g l = length l.keys + 1 - l.first
