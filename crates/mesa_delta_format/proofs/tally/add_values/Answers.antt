use Rattle.std.proofs.Common.{◌∙◌, arith, rules}
use Rattle.mesa_delta_format.proofs.Adding.{added_step, added_end, sums_step, set_length}
use Rattle.mesa_delta_format.proofs.tally.add_values.Goals as goal

pub loop-i-preserved : goal.loop-i-preserved
loop-i-preserved c =
    let l = c.loop-i in
    record {
      len = set_length l.totals l.i _ ∙ l.invariant.len;
      sums = sums_step c.args.columns.now l.totals c.args.values.now l.i c.index-columns-i.result _ (omega arith) (omega arith) (omega arith) l.invariant.sums;
      done = added_step c.args.columns.now l.totals c.args.values.now _ l.i c.index-columns-i.result _ (omega arith) (omega arith) (omega arith) c.index-columns-i.is (search rules) l.invariant.done;
    }

pub returns-clause-values : goal.returns-clause-values
returns-clause-values c = added_end c.args.columns.now c.loop-i.totals c.args.values.now _ c.loop-i.i (omega (arith, c.min-count.ensures)) c.loop-i.invariant.done
