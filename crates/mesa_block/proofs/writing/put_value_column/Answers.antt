use Rattle.std.proofs.Common.{◌∙◌, ◌++◌, ap, get_or, rules}
use Rattle.std.specs.Prelude.{FitsSigned, ℤ, pos}
use Rattle.std.specs.Int.{w128}
use Rattle.std.proofs.lemmas.Int.{to_z-of_z}
use Rattle.mesa_block.specs.Layout.{value}
use Rattle.mesa_block.proofs.Held.{left_all, put_all, put_one}
use Rattle.mesa_block.proofs.writing.put_value_column.Goals as goal

pub loop-left-init : goal.loop-left-init
loop-left-init c = λ keys over. left_all c.args.width c.args.count c.args.j keys c.args.values.now c.args.out.now.items over

pub loop-left-preserved : goal.loop-left-preserved
loop-left-preserved c = λ keys over.
    let z : ℤ = get_or c.split_at.result.0.now c.args.j (pos 0) in
    let fits : FitsSigned w128 z = search rules in
    put_one c.args.width c.args.count c.args.j c.loop-left.left.now c.split_at.result.0.now c.split_at.result.1.now c.loop-left.out.items c.put_value.new.out.items _ c.requires c.loop-left-test.true
    (c.loop-left.invariant keys over) c.split_at.ensures.front c.split_at.ensures.back (c.in_ok-put_value.ensures ∙ ap (λ (z : ℤ). c.loop-left.out.items ++ value c.args.width z) (to_z-of_z w128 z fits))

pub returns : goal.returns
returns c = λ keys over. put_all c.args.width c.args.count c.args.j c.loop-left.left.now c.loop-left.out.items _ c.loop-left-test.false (c.loop-left.invariant keys over)
