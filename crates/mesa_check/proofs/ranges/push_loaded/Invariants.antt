use Rattle.std.proofs.Common.{◌≡◌, ◌++◌, map, take}
use Rattle.mesa_check.specs.Held.{loaded_range, range_in}
use Rattle.mesa_check.proofs.ranges.push_loaded.Given as goal

-- the ranges of those so far
abbrev pub invariant-loop-single : goal.invariant-loop-single
invariant-loop-single l = map range_in l.ranges.items ≡ map range_in l.initial.ranges.items ++ map loaded_range (take l.single-index l.loaded)
