use Rattle.std.proofs.Common.{map, drop}
use Rattle.mesa_delta_format.specs.Summary.{AllCombine}
use Rattle.mesa_delta_format.proofs.Adding.{agg_of}
use Rattle.mesa_delta_format.proofs.tally.all_combine.Given as goal

abbrev pub invariant-loop-i : goal.invariant-loop-i
invariant-loop-i l = record {
  onto : AllCombine (map agg_of (drop l.i l.columns)) (drop l.i l.totals) (drop l.i l.values) → AllCombine (map agg_of l.columns) l.totals l.values;
  from : AllCombine (map agg_of l.columns) l.totals l.values → AllCombine (map agg_of (drop l.i l.columns)) (drop l.i l.totals) (drop l.i l.values);
}
