use Rattle.std.proofs.Common.{◌≡◌, ◌++◌, take}
use Rattle.mesa_scan.proofs.whole.add_copies.Given as goal

abbrev pub invariant-loop-i : goal.invariant-loop-i
invariant-loop-i l = l.rows.items ≡ l.fn.rows.items ++ take l.i l.more
