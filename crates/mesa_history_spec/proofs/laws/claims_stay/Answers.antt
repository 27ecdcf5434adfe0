use Rattle.mesa_history_spec.specs.Run.{begins}
use Rattle.mesa_history_spec.proofs.Claims.{runs_hold, begins_hold}
use Rattle.mesa_history_spec.proofs.laws.claims_stay.Goals as goal

pub returns : goal.returns
returns c script start h session ranges = (runs_hold script (begins start) h (begins_hold start ranges)).claims session
