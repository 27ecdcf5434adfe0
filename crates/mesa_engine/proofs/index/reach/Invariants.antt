use Rattle.std.proofs.Common.{◌≡◌, ◌++◌, drop, take}
use Rattle.mesa_engine.proofs.Indexed.{reached}
use Rattle.mesa_engine.proofs.index.reach.Given as goal

-- the holds so far reach as far as those before them, and the others are as they were
abbrev pub invariant-loop-hold : goal.invariant-loop-hold
invariant-loop-hold l = take l.hold-index l.hold-items ++ reached l.next (drop l.hold-index l.hold-items) ≡ reached 0 l.fn.holds
