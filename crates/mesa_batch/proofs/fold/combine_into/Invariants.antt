use Rattle.std.proofs.Common.{◌≡◌, ◌++◌, length, drop, take}
use Rattle.mesa_schema.specs.mesa_fold.Folded.{AllCombine, row_combined}
use Rattle.mesa_batch.proofs.fold.combine_into.Given as goal

-- the columns before the one at hand are combined, and the others are as they were
abbrev pub invariant-columns : goal.invariant-columns
invariant-columns l = record {
  done : take l.i l.old ++ row_combined (drop l.i l.aggs) (drop l.i l.old) (drop l.i l.new) ≡ row_combined l.aggs l.fn.old l.new;
  fits : AllCombine (drop l.i l.aggs) (drop l.i l.old) (drop l.i l.new);
  full : length l.old ≡ length l.aggs;
}
