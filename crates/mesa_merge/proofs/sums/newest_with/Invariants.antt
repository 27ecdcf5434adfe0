use Rattle.mesa_merge.specs.Hands.{hands_of}
use Rattle.mesa_merge.proofs.Newest.{IsNewestTo}
use Rattle.mesa_merge.proofs.sums.newest_with.Given as goal

abbrev pub invariant-inputs : goal.invariant-inputs
invariant-inputs l = IsNewestTo l.key l.from l.newest l.j (hands_of l.cursors)
