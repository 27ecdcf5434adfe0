use Rattle.std.proofs.Common.{◌-◌}
use Rattle.mesa_session.proofs.all.+fn-run_rest-join_mut+arg3+run_rest.Given as goal

abbrev pub decreases-join_mut+arg3 : goal.decreases-join_mut+arg3
decreases-join_mut+arg3 g l = 8 - l.behind

abbrev pub decreases-run_rest : goal.decreases-run_rest
decreases-run_rest g l = 8 - l.next
