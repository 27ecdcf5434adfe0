use Rattle.std.proofs.Common.{◌≡◌, ◌∙◌, pos, get_or, arith, rules}
use Rattle.std.proofs.lemmas.List.{get_or_default}
use Rattle.mesa_delta.proofs.mesa_delta_format.Adding.{added_end, added_step, set_length}
use Rattle.mesa_examine.proofs.tally.add_values.Goals as goal

pub loop-i-preserved : goal.loop-i-preserved
loop-i-preserved c =
    let l = c.loop-i in
    let at : c.index-aggregates-i.result ≡ get_or l.aggregates l.i (pos 0) = c.index-aggregates-i.is ∙ get_or_default l.aggregates l.i c.index-aggregates-i.result (pos 0) (omega arith) in
    record {
      len = set_length l.aggregates l.i _ ∙ l.invariant.len;
      done = added_step c.args.columns.now l.aggregates c.args.values.now _ l.i c.index-columns-i.result _ (omega arith) (omega arith) (omega arith) c.index-columns-i.is (rw (← at) (search (rules, c.in-Some.ensures))) l.invariant.done;
    }

pub returns-clause-values : goal.returns-clause-values
returns-clause-values c = added_end c.args.columns.now c.loop-i.aggregates c.args.values.now _ c.loop-i.i (omega (arith, c.min-count.ensures)) c.loop-i.invariant.done
