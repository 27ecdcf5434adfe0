use Rattle.std.proofs.Common.{◌≡◌, ◌++◌, map, drop}
use Rattle.mesa_delta_format.specs.Summary.{all_noted}
use Rattle.mesa_delta_format.proofs.Adding.{agg_of}
use Rattle.mesa_delta_format.proofs.tally.put_noted.Given as goal

abbrev pub invariant-loop-i : goal.invariant-loop-i
invariant-loop-i l = l.totals.items ++ all_noted (map agg_of (drop l.i l.columns)) (drop l.i l.values) ≡ all_noted (map agg_of l.columns) l.values
