use Rattle.std.proofs.Common.{take}
use Rattle.mesa_answer.specs.Window.{AreInts}
use Rattle.mesa_answer.proofs.window.are_ints.Given as goal

abbrev pub invariant-loop-kind : goal.invariant-loop-kind
invariant-loop-kind l = AreInts (take l.kind-index l.kinds)
