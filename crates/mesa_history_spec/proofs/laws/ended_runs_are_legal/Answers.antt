use Rattle.mesa_history_spec.proofs.Ending.{cut_off_last, legal_ended}
use Rattle.mesa_history_spec.proofs.laws.ended_runs_are_legal.Goals as goal

pub returns : goal.returns
returns c = record { legal = legal_ended; cut = λ start script h session all cut. cut_off_last script start h all session cut }
