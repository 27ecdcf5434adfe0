use Rattle.std.proofs.Common.{◌≡◌, ◌++◌, ℕ, List, length}
use Rattle.std.specs.FinMap.{from_entries}
use Rattle.mesa_disk.specs.Recorded.{held_image}
use Rattle.mesa_disk.proofs.memory.held.share.Given as goal

abbrev pub invariant-loop-left : goal.invariant-loop-left
invariant-loop-left l = (done : List (ℕ × List ℕ)) × (l.given.files.items ≡ l.left ++ done) × (held_image l.held ≡ record { zero = l.given.zero.items; one = l.given.one.items; files = from_entries done })

abbrev pub decreases-loop-left : goal.decreases-loop-left
decreases-loop-left l = length l.left
