use Rattle.std.proofs.Common.{arith}
use Rattle.mesa_filter.proofs.Steps.{all_met}
use Rattle.mesa_filter.proofs.matching.columns_meet.Goals as goal

pub returns : goal.returns
returns c = all_met c.loop-place.columns.kinds c.loop-place.place c.args.terms.now c.loop-place.columns.bytes _ (omega (arith, c.requires.named)) c.loop-place.invariant.met
