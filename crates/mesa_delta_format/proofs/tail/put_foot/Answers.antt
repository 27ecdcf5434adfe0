use Rattle.mesa_delta_format.proofs.JoinedParts.{in_foot}
use Rattle.mesa_delta_format.proofs.tail.put_foot.Goals as goal

pub returns : goal.returns
returns c = rw (c.in_ok-extend_from_slice.ensures.items, c.magic.ensures, c.in_ok-push-2.ensures.items, c.in_ok-push.ensures.items, c.in_ok-put_u32.ensures, c.in_ok-put_u64.ensures, c.in_ok-put_aggs.ensures, c.values.ensures.same, c.in_ok-put_kinds.ensures, c.keys.ensures.same, c.keys-2.ensures.same, c.values-2.ensures.same) (in_foot c.args.out.now.items _ _ _ _ _ _ _)
