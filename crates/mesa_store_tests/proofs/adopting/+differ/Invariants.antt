use Rattle.std.proofs.Common.{length}
use Rattle.mesa_store_tests.proofs.adopting.+differ.Given as goal

abbrev pub decreases-differ : goal.decreases-differ
decreases-differ l = length l.made.now
