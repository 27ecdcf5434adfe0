use Rattle.mesa_history_spec.proofs.ClosedRuns.{turned-closed}
use Rattle.mesa_history_spec.proofs.laws.closed_runs_refuse_what_comes.Goals as goal

pub returns : goal.returns
returns c = turned-closed
