use Rattle.std.proofs.Common.{[], get_or, refl}
use Rattle.mesa_block.proofs.Rows.{key_step, key_end, key_end_kinds}
use Rattle.mesa_block.proofs.flat.put_key.Goals as goal

pub returns-then-j-columns : goal.returns-then-j-columns
returns-then-j-columns c = key_end c.args.kinds.now c.args.columns.now c.args.i c.loop-j.j _ _ c.if-j-columns.true c.loop-j.invariant

pub returns : goal.returns
returns c = key_end_kinds c.args.kinds.now _ c.args.i c.loop-j.j _ _ c.loop-j-test.false c.loop-j.invariant

pub loop-j-preserved : goal.loop-j-preserved
loop-j-preserved c =
    key_step c.args.kinds.now c.args.columns.now c.args.i c.loop-j.j _ c.index-columns-j.result c.loop-j.bytes.items _ (get_or c.index-columns-j.result c.args.i []) _ c.loop-j-test.true c.if-j-columns.false c.index-columns-j.is c.loop-j.invariant
    refl c.in_ok-put_sealed.ensures
