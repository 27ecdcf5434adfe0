use Rattle.std.proofs.Common.{◌≡◌, take}
use Rattle.mesa_examine.proofs.matching.are_same.Given as goal

-- those so far are the same
abbrev pub invariant-loop-i : goal.invariant-loop-i
invariant-loop-i l = take l.i l.recorded ≡ take l.i l.found
