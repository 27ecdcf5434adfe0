use Rattle.mesa_history_spec.proofs.Places.{others_keep}
use Rattle.mesa_history_spec.proofs.laws.sessions_keep_their_places.Goals as goal

pub returns : goal.returns
returns c script r h session all = others_keep script r h session all
