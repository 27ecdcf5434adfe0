use Rattle.std.proofs.Common.{◌≡◌, ◌++◌, map, drop}
use Rattle.mesa_open_files.specs.mesa_delta_format.Summary.{all_noted}
use Rattle.mesa_delta.proofs.mesa_delta_format.Adding.{agg_of}
use Rattle.mesa_examine.proofs.tally.put_noted.Given as goal

abbrev pub invariant-loop-i : goal.invariant-loop-i
invariant-loop-i l = l.aggregates.items ++ all_noted (map agg_of (drop l.i l.columns)) (drop l.i l.values) ≡ all_noted (map agg_of l.columns) l.values
