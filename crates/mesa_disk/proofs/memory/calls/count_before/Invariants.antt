use Rattle.std.proofs.Common.{◌≡◌, ◌++◌, take, drop}
use Rattle.mesa_disk.specs.Picked.{calls_before}
use Rattle.mesa_disk.proofs.memory.calls.count_before.Given as goal

abbrev pub invariant-loop-i : goal.invariant-loop-i
invariant-loop-i l = take l.i l.calls ++ calls_before l.moment (drop l.i l.calls) ≡ calls_before l.moment l.calls
