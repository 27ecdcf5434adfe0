use Rattle.std.proofs.Common.{◌≡◌, ◌-◌, length}
use Rattle.mesa_delta.proofs.ahead.digest_fours.Given as goal

-- no block changes
abbrev pub invariant-fours : goal.invariant-fours
invariant-fours l = l.blocks ≡ l.fn.blocks

abbrev pub decreases-fours : goal.decreases-fours
decreases-fours l = length l.blocks - l.from
