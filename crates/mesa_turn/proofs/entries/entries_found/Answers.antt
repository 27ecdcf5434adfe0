use Rattle.mesa_turn.proofs.Laws.{entries_found}
use Rattle.mesa_turn.proofs.entries.entries_found.Goals as goal

pub returns : goal.returns
returns c = entries_found
