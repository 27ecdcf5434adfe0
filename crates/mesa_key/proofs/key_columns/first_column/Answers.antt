use Rattle.mesa_key.proofs.Zeros.{alone}
use Rattle.mesa_key.proofs.key_columns.first_column.Goals as goal

pub invariant_of-result : goal.invariant_of-result
invariant_of-result c = record { whole = rw c.split_at.ensures.front (alone c.args.kind c.args.bytes.now c.in_ok-len.len c.in_ok-len.ensures.length c.in_ok-len.ensures.within) }
