use Rattle.mesa_turn.proofs.Laws.{entries_apart}
use Rattle.mesa_turn.proofs.entries.entries_apart.Goals as goal

pub returns : goal.returns
returns c = entries_apart
