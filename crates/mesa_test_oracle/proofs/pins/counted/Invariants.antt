use Rattle.std.proofs.Common.{◌≡◌, ◌++◌, ◌-◌, ◌+◌, ◌≤◌, length, replicate}
use Rattle.mesa_test_oracle.proofs.pins.counted.Given as goal

-- the counts and then zeros, as many as the session's place asks
abbrev pub invariant-sessions : goal.invariant-sessions
invariant-sessions l = record {
  padded : l.more ≡ l.counts ++ replicate (l._more - length l.counts) 0;
  top : l._more - length l.counts ≤ l.session + 1 - length l.counts;
}
