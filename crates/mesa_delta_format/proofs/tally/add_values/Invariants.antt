use Rattle.std.proofs.Common.{◌≡◌, ◌++◌, map, drop, take, length}
use Rattle.mesa_delta_format.specs.Summary.{AllCombine}
use Rattle.mesa_delta_format.specs.Totals.{added}
use Rattle.mesa_delta_format.proofs.Adding.{agg_of}
use Rattle.mesa_delta_format.proofs.tally.add_values.Given as goal

abbrev pub invariant-loop-i : goal.invariant-loop-i
invariant-loop-i l = record {
  len : length l.totals ≡ length l.initial.totals;
  sums : AllCombine (map agg_of (drop l.i l.columns)) (drop l.i l.totals) (drop l.i l.values);
  done : take l.i l.totals ++ added (map agg_of (drop l.i l.columns)) (drop l.i l.totals) (drop l.i l.values) ≡ added (map agg_of l.columns) l.initial.totals l.values;
}
