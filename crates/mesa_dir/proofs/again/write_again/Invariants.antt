use Rattle.std.proofs.Common.{◌≤◌, ◌-◌}
use Rattle.mesa_dir.specs.Opening.{WrittenAgain}
use Rattle.mesa_dir.proofs.again.write_again.Given as goal

abbrev pub invariant-pieces : goal.invariant-pieces
invariant-pieces g l = WrittenAgain (g.S.System.calls l.initial.file) l.at (g.S.System.calls l.file) × (l.at ≤ l.len)

abbrev pub decreases-pieces : goal.decreases-pieces
decreases-pieces g l = l.len - l.at
