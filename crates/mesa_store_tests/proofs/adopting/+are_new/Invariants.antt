use Rattle.std.proofs.Common.{length}
use Rattle.mesa_store_tests.proofs.adopting.+are_new.Given as goal

abbrev pub decreases-are_new : goal.decreases-are_new
decreases-are_new l = length l.made.now
