use Rattle.std.proofs.Common.{◌≡◌, ◌≤◌, length}
use Rattle.mesa_disk.specs.Picked.{synced}
use Rattle.mesa_disk.proofs.memory.calls.count_synced.Given as goal

abbrev pub invariant-loop-left : goal.invariant-loop-left
invariant-loop-left l = record { count : synced l.left ≡ synced l.calls; within : length l.left ≤ length l.calls }

abbrev pub decreases-loop-left : goal.decreases-loop-left
decreases-loop-left l = length l.left
