use Rattle.std.proofs.Common.{sym, ◌∙◌}
use Rattle.mesa_block.proofs.Rows.{bad_pass, bad_stop, bad_end, bad_end_kinds}
use Rattle.mesa_block.proofs.checking.bad_text_of.Goals as goal

pub returns-then-j-columns : goal.returns-then-j-columns
returns-then-j-columns c = sym (c.loop-j.invariant ∙ bad_end c.args.kinds.now c.args.columns.now c.loop-j.j c.if-j-columns.true)

pub returns-in-Some : goal.returns-in-Some
returns-in-Some c =
    bad_stop c.args.kinds.now c.args.columns.now c.loop-j.j _ _ c.index-columns-j.result _ c.loop-j-test.true c.if-j-columns.false c.index-columns-j.is c.loop-j.invariant c.in-Some.ensures

pub returns : goal.returns
returns c = sym (c.loop-j.invariant ∙ bad_end_kinds c.args.kinds.now _ c.loop-j.j c.loop-j-test.false)

pub loop-j-preserved : goal.loop-j-preserved
loop-j-preserved c =
    bad_pass c.args.kinds.now c.args.columns.now c.loop-j.j _ c.index-columns-j.result _ c.loop-j-test.true c.if-j-columns.false c.index-columns-j.is c.loop-j.invariant c.in_default.ensures
