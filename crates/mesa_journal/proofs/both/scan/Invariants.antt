use Rattle.std.proofs.Common.{◌≡◌, ◌-◌, ℕ, List, length}
use Rattle.mesa_journal.specs.Live.{first_number}
use Rattle.mesa_journal.proofs.Tails.{Parsed}
use Rattle.mesa_journal.proofs.both.scan.Given as goal

-- some bodies stand before this place
abbrev pub invariant-loop-at : goal.invariant-loop-at
invariant-loop-at l = (bodies : List (List ℕ)) × Parsed l.area bodies l.at × (l.first ≡ first_number bodies)

abbrev pub decreases-loop-at : goal.decreases-loop-at
decreases-loop-at l = length l.area - l.at
