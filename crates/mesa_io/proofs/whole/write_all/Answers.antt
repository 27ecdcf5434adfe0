use Rattle.std.proofs.Common.{arith}
use Rattle.std.proofs.lemmas.Grind.{common_steps}
use Rattle.mesa_io.proofs.Pieces.{Appends-behind}
use Rattle.mesa_io.proofs.whole.write_all.Goals as goal

pub pieces-preserved : goal.pieces-preserved
pieces-preserved g c = record {
  put = Appends-behind _ _ _ c.pieces.at c.in-Ok.count c.args.bytes.now c.pieces.invariant.within c.pieces.invariant.put c.in-Ok.ensures.bytes;
  within = grind (arith, common_steps);
  quiet = omega (arith, c.in-Ok.ensures.cause.quiet);
}
