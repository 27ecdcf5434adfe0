use Rattle.std.proofs.Common.{◌-◌}
use Rattle.mesa_base_tests.proofs.turns.+fn-run_from-join+arg3+run_from.Given as goal

abbrev pub decreases-join+arg3 : goal.decreases-join+arg3
decreases-join+arg3 g l = 8 - l.next

abbrev pub decreases-run_from : goal.decreases-run_from
decreases-run_from g l = 8 - l.name
