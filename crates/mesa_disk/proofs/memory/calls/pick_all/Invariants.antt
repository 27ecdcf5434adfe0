use Rattle.std.proofs.Common.{◌≡◌, drop}
use Rattle.mesa_disk.specs.Recorded.{held_image}
use Rattle.mesa_disk.specs.Picked.{picked_after}
use Rattle.mesa_disk.proofs.memory.calls.pick_all.Given as goal

abbrev pub invariant-loop-done : goal.invariant-loop-done
invariant-loop-done l = picked_after l.pick (held_image l.held) (drop l.done-index l.calls) ≡ picked_after l.pick (held_image l.initial.held) l.calls
