use Rattle.mesa_history_spec.proofs.Moments.{moment-le, moment-lt-wrote, moment-lt-closing, moment-same}
use Rattle.mesa_history_spec.proofs.laws.moments_never_fall.Goals as goal

pub returns : goal.returns
returns c = record { never_fall = moment-le; wrote = moment-lt-wrote; closing = moment-lt-closing; same = moment-same }
