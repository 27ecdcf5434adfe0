use Rattle.mesa_delta.proofs.Putting.{put_step}
use Rattle.mesa_delta.proofs.pending.Pending.put_entries.Goals as goal

pub loop-block-preserved : goal.loop-block-preserved
loop-block-preserved c =
    put_step c.loop-block.out.items _ _ _ c.loop-block.block-index c.block-item.result c.loop-block-test.true c.block-item.is (rw c.entry.ensures at c.in_ok-put_entry.ensures) c.loop-block.invariant
