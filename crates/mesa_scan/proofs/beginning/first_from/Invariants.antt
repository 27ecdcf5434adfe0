use Rattle.std.proofs.Common.{◌≡◌, drop}
use Rattle.std.specs.Prelude.{None, Some}
use Rattle.mesa_scan.specs.Cut.{cut}
use Rattle.mesa_scan.proofs.beginning.first_from.Given as goal

-- no row before the place is at or above the key
abbrev pub invariant-loop-i : goal.invariant-loop-i
invariant-loop-i l = cut (Some l.key) None l.block ≡ cut (Some l.key) None (drop l.i l.block)
