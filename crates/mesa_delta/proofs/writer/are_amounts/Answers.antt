use Rattle.std.proofs.Common.{sym, subst, pos, get_or, rules}
use Rattle.std.specs.List.{AllByRecursion}
use Rattle.std.proofs.lemmas.List.{take_more, take_all}
use Rattle.mesa_delta_format.specs.mesa_value.Agg.{IsAmount}
use Rattle.mesa_delta_format.proofs.Spreading.{each_more}
use Rattle.mesa_delta.proofs.writer.are_amounts.Goals as goal

pub loop-value-preserved : goal.loop-value-preserved
loop-value-preserved c =
    let l = c.loop-value in
    let fits : IsAmount (get_or c.args.values.now l.value-index (pos 0)) = search rules in
    subst (AllByRecursion IsAmount) (sym (take_more c.args.values.now l.value-index (pos 0) c.loop-value-test.true)) (each_more IsAmount _ _ l.invariant fits)

pub returns : goal.returns
returns c = subst (AllByRecursion IsAmount) (take_all c.loop-value.value-index c.args.values.now c.loop-value-test.false) c.loop-value.invariant
