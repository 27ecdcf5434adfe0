use Rattle.std.proofs.Common.{◌≡◌, drop}
use Rattle.mesa_disk.specs.Recorded.{held_image, seen_after}
use Rattle.mesa_disk.proofs.memory.calls.repeat_all.Given as goal

abbrev pub invariant-loop-done : goal.invariant-loop-done
invariant-loop-done l = seen_after (held_image l.held) (drop l.done-index l.calls) ≡ seen_after (held_image l.initial.held) l.calls
