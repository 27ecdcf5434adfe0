use Rattle.mesa_file_records.proofs.Takes.{IsTurned, steps_to}
use Rattle.mesa_file_records.proofs.recasting.take_range.Given as goal

abbrev pub invariant-turns : goal.invariant-turns
invariant-turns g l = IsTurned l.initial.left.items l.left.items l.fn.from l.fn.to

-- how far the range is from the front
abbrev pub decreases-turns : goal.decreases-turns
decreases-turns g l = steps_to l.fn.from l.fn.to l.left.items
