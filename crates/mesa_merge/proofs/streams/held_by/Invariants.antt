use Rattle.std.proofs.Common.{◌≡◌, ◌-◌, ◌^◌, length, min, take}
use Rattle.std.specs.Prelude.{sum_by}
use Rattle.mesa_merge.specs.Hands.{hands_of}
use Rattle.mesa_merge.proofs.streams.held_by.Given as goal

abbrev pub invariant-cursors : goal.invariant-cursors
invariant-cursors l = l.held ≡ min (sum_by length (hands_of (take l.cursor-index l.cursors))) (2 ^ 64 - 1)
