use Rattle.std.proofs.Common.{arith, refl, sym}
use Rattle.sha2.proofs.Schedule256.{rounds_first}
use Rattle.mesa_sha256.specs.Lanes.{lane}
use Rattle.mesa_sha256.proofs.Lanes.{lane_at}
use Rattle.mesa_sha256.proofs.compressing.first_step.Goals as goal

pub returns : goal.returns
returns c = λ l b h lt window held.
    rounds_first b h (lane l c.args.w.now) (lane l c.args.v) c.args.t _ _ _ c.requires window held refl (sym (lane_at l c.args.t c.args.w.now (omega arith))) (c.round.ensures l lt)
