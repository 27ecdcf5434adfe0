use Rattle.mesa_merge.specs.Hands.{hands_of}
use Rattle.mesa_merge.proofs.Trees.{IsWonBelow}
use Rattle.mesa_merge.proofs.matches.play_up.Given as goal

abbrev pub invariant-levels : goal.invariant-levels
invariant-levels l = IsWonBelow (hands_of l.cursors) l.place l.winners

abbrev pub decreases-levels : goal.decreases-levels
decreases-levels l = l.place
