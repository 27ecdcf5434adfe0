use Rattle.std.proofs.Common.{◌≡◌, ◌++◌, map, drop, take, length}
use Rattle.mesa_open_files.specs.mesa_delta_format.Totals.{added}
use Rattle.mesa_delta.proofs.mesa_delta_format.Adding.{agg_of}
use Rattle.mesa_examine.proofs.tally.add_values.Given as goal

-- the aggregates so far, and what is still to come of those that are left
abbrev pub invariant-loop-i : goal.invariant-loop-i
invariant-loop-i l = record {
  len : length l.aggregates ≡ length l.initial.aggregates;
  done : take l.i l.aggregates ++ added (map agg_of (drop l.i l.columns)) (drop l.i l.aggregates) (drop l.i l.values) ≡ added (map agg_of l.columns) l.initial.aggregates l.values;
}
