use Rattle.std.proofs.Common.{◌≡◌, ◌++◌, map, length}
use Rattle.mesa_block.proofs.writing.lent.Given as goal

abbrev pub invariant-loop-key : goal.invariant-loop-key
invariant-loop-key l = map (λ k. k.now) l.found.items ++ l.left ≡ l.keys

abbrev pub decreases-loop-key : goal.decreases-loop-key
decreases-loop-key l = length l.left
