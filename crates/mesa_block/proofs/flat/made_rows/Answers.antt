use Rattle.std.proofs.Common.{◌≡◌, ◌<◌, ◌^◌, length}
use Rattle.mesa_block.proofs.Made.{laid_more}
use Rattle.mesa_block.proofs.flat.made_rows.Goals as goal

pub loop-i-preserved : goal.loop-i-preserved
loop-i-preserved c =
    let end : (c.in_ok-end_of.field-0 ≡ length c.put_key.new.bytes.items) × (length c.put_key.new.bytes.items < 2 ^ 32) = rw c.deref.ensures.value at c.in_ok-end_of.ensures in
    laid_more c.count_of-count.result c.args.kinds.now c.args.widths.now c.args.keys.now c.args.values.now c.loop-i.i c.loop-i.bytes.items c.put_key.new.bytes.items c.loop-i.ends.items c.push.new.self.items c.in_ok-end_of.field-0 c.loop-i.found.items c.put_values.new.found.items
    c.loop-i.invariant c.count_of-count.ensures c.in_ok-put_key.ensures end c.in_ok-push.ensures.items c.in_ok-put_values.ensures
