use Rattle.std.proofs.Common.{◌≡◌, ◌+◌, ◌*◌, ◌++◌, map, drop}
use Rattle.mesa_catalog_table.specs.Meaning.{tens_from}
use Rattle.mesa_check.specs.Ranges.{cumulative_range}
use Rattle.mesa_check.specs.Held.{range_in}
use Rattle.mesa_check.proofs.ranges.push_cumulatives.Given as goal

-- the ranges so far and those to come are all
abbrev pub invariant-loop-delta : goal.invariant-loop-delta
invariant-loop-delta l = record {
  behind : l.behind ≡ l.start + 10 * l.delta-index;
  ranges : map range_in l.ranges.items ++ map (cumulative_range l.start) (tens_from l.behind (drop l.delta-index l.cumulatives)) ≡ map range_in l.initial.ranges.items ++ map (cumulative_range l.start) (tens_from l.start l.cumulatives);
}
