use Rattle.std.proofs.Common.{◌≤◌, ◌<◌, ◌-◌, max, length}
use Rattle.mesa_delta_format.specs.Places.{shorts_of}
use Rattle.mesa_delta_format.specs.Seeking.{seek_in}
use Rattle.mesa_delta_format.proofs.seeking.seek.Given as goal

abbrev pub invariant-loop-high : goal.invariant-loop-high
invariant-loop-high l = record {
  order : l.low ≤ l.high;
  small : l.high ≤ length l.entries;
  least : l.low ≤ seek_in l.key (shorts_of l.entries);
  less : seek_in l.key (shorts_of l.entries) < max l.high 1;
}

abbrev pub decreases-loop-high : goal.decreases-loop-high
decreases-loop-high l = l.high - l.low
