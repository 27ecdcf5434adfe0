use Rattle.mesa_history_laws.proofs.OneText.{runs_alone}
use Rattle.mesa_history_laws.proofs.single_session.one_session_runs_alone.Goals as goal

pub returns : goal.returns
returns c = runs_alone
