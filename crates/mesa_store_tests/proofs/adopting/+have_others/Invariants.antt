use Rattle.std.proofs.Common.{length}
use Rattle.mesa_store_tests.proofs.adopting.+have_others.Given as goal

abbrev pub decreases-have_others : goal.decreases-have_others
decreases-have_others l = length l.made.now
