use Rattle.std.proofs.Common.{◌≡◌, length}
use Rattle.mesa_key.specs.Order.{byte_cmp}
use Rattle.mesa_key.proofs.order.compare.Given as goal

abbrev pub decreases-eights : goal.decreases-eights
decreases-eights l = length l.a

-- what is left is ordered as the whole keys
abbrev pub invariant-eights : goal.invariant-eights
invariant-eights l = byte_cmp l.a l.b ≡ byte_cmp l.fn.a l.fn.b
