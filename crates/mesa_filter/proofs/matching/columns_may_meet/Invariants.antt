use Rattle.std.proofs.Common.{◌≡◌, ◌+◌, length}
use Rattle.mesa_filter.specs.Walk.{may_meet_from}
use Rattle.mesa_filter.proofs.matching.columns_may_meet.Given as goal

-- the columns that are left decide, and are of the same types in both
abbrev pub invariant-loop-place : goal.invariant-loop-place
invariant-loop-place l = record {
  count : l.place + length l.lows.kinds ≡ length l.kinds;
  same : l.highs.kinds ≡ l.lows.kinds;
  left : may_meet_from l.lows.kinds l.place l.terms l.lows.bytes l.highs.bytes ≡ may_meet_from l.kinds 0 l.terms l.low l.high;
}
