use Rattle.mesa_core.proofs.SessionEnds.{ended_whole, ended_cut}
use Rattle.mesa_core.proofs.passes.sessions_end.Goals as goal

pub returns : goal.returns
returns c = record { whole = ended_whole; cut = ended_cut }
