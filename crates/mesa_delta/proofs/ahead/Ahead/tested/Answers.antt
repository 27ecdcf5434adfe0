use Rattle.std.proofs.Common.{ap}
use Rattle.mesa_delta.specs.Ahead.{Untested}
use Rattle.mesa_delta.proofs.Accepting.{taken_again}
use Rattle.mesa_delta.proofs.ahead.Ahead.tested.Goals as goal

pub returns-in-Some-clause-again : goal.returns-in-Some-clause-again
returns-in-Some-clause-again c =
    let first = c.in-Some.ensures.some in
    let number = ap (λ (u : Untested). u.block) c.first.view_is in
    taken_again c.fits_alone.ensures c.reads_blocks.ensures c.args.index.now c.tested.result c.args.self.now c.in-Some.first.now first.0 c.first.inside.block c.bytes.result.now c.blocks-blocks.ensures.index first.1 number c.bytes.ensures
    c.tested.ensures.block c.tested.ensures.spelled
