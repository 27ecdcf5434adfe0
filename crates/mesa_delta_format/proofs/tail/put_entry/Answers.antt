use Rattle.mesa_delta_format.proofs.JoinedParts.{in_row}
use Rattle.mesa_delta_format.proofs.tail.put_entry.Goals as goal

pub returns : goal.returns
returns c = rw (c.in_ok-extend_from_slice-2.ensures.items, c.in_ok-put_u32.ensures, c.in_ok-put_u64.ensures, c.in_ok-extend_from_slice.ensures.items, c.in_ok-reserve.ensures.items) (in_row c.args.out.now.items _ _ _ _)
