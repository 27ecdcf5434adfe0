use Rattle.std.proofs.Common.{sym, subst, ◌<◌}
use Rattle.mesa_batch.proofs.SumNames.{length-sum_names, sum_name-is}
use Rattle.mesa_batch.proofs.summing.sum_column.Goals as goal

pub columns-init : goal.columns-init
columns-init c = record {
  within = subst (λ n. c.args.place < n) (sym (length-sum_names 0 c.args.schema.now.values)) c.requires;
  same = sym (sum_name-is c.args.schema.now c.args.place);
}
