use Rattle.std.proofs.Common.{arith}
use Rattle.mesa_dir.specs.Opening.{nothing}
use Rattle.mesa_dir.proofs.Steps.{again_more}
use Rattle.mesa_dir.proofs.again.write_again.Goals as goal

pub pieces-init : goal.pieces-init
pieces-init g c = (nothing, omega arith)

pub pieces-preserved : goal.pieces-preserved
pieces-preserved g c =
    (again_more _ _ _ _ _ c.pieces.invariant.0 c.in_ok-at.ensures.piece, omega (arith, c.pieces.invariant.1, c.in_ok-at.ensures.left))
