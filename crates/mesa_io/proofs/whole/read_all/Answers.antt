use Rattle.std.proofs.Common.{◌∙◌, arith}
use Rattle.std.proofs.lemmas.Grind.{common_steps}
use Rattle.mesa_io.proofs.Pieces.{Consumes-behind}
use Rattle.mesa_io.proofs.whole.read_all.Goals as goal

pub returns-then-filled-max-clause-moves : goal.returns-then-filled-max-clause-moves
returns-then-filled-max-clause-moves g c =
    (_, Consumes-behind _ _ _ c.pieces.filled c.in-Ok-take_behind.count _ c.take_behind.new.bytes.items c.pieces.invariant.taken (c.take_behind.ensures.same ∙ c.in-Ok.ensures.same) (c.in-Ok-take_behind.ensures.bytes.0))

pub pieces-preserved : goal.pieces-preserved
pieces-preserved g c = record {
  taken = Consumes-behind _ _ _ c.pieces.filled c.in-Ok-take_behind.count _ c.take_behind.new.bytes.items c.pieces.invariant.taken (c.take_behind.ensures.same ∙ c.in-Ok.ensures.same) (c.in-Ok-take_behind.ensures.bytes.0);
  within = grind (arith, common_steps);
  few = omega (arith, c.if-filled-max.false);
  quiet = omega (arith, c.in-Ok-take_behind.ensures.cause.quiet);
}
