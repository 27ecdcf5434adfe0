use Rattle.std.proofs.Common.{◌++◌, ◌∷◌, [], ◌∙◌, ap, rules}
use Rattle.std.specs.Prelude.{FitsSigned, ℤ}
use Rattle.std.specs.Int.{w128}
use Rattle.std.proofs.lemmas.Int.{to_z-of_z}
use Rattle.mesa_block.proofs.Rows.{value_step, value_end, value_end_widths}
use Rattle.mesa_block.proofs.flat.put_values.Goals as goal

pub returns-then-j-columns : goal.returns-then-j-columns
returns-then-j-columns c = value_end c.args.widths.now c.args.columns.now c.args.i c.loop-j.j _ _ c.if-j-columns.true c.loop-j.invariant

pub returns : goal.returns
returns c = value_end_widths c.args.widths.now _ c.args.i c.loop-j.j _ _ c.loop-j-test.false c.loop-j.invariant

pub loop-j-preserved : goal.loop-j-preserved
loop-j-preserved c =
    let fits : FitsSigned w128 c.number_of.result = search rules in
    value_step c.args.widths.now c.args.columns.now c.args.i c.loop-j.j _ c.index-columns-j.result c.loop-j.found.items _ _ c.cell.result.now c.number_of.result c.loop-j-test.true c.if-j-columns.false c.index-columns-j.is c.loop-j.invariant
    c.cell.ensures c.number_of.ensures (c.in_ok-push.ensures.items ∙ ap (λ (z : ℤ). c.loop-j.found.items ++ z ∷ []) (to_z-of_z w128 c.number_of.result fits))
