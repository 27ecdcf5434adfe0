use Rattle.std.proofs.Common.{drop}
use Rattle.mesa_schema.specs.mesa_fold.Folded.{AllCombine}
use Rattle.mesa_batch.proofs.fold.combines_all.Given as goal

-- all combine where those do that are left
abbrev pub invariant-columns : goal.invariant-columns
invariant-columns l = record {
  left : AllCombine l.aggs l.old l.new → AllCombine (drop l.i l.aggs) (drop l.i l.old) (drop l.i l.new);
  back : AllCombine (drop l.i l.aggs) (drop l.i l.old) (drop l.i l.new) → AllCombine l.aggs l.old l.new;
}
