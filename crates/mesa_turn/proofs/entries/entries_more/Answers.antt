use Rattle.mesa_turn.proofs.Laws.{entries_more}
use Rattle.mesa_turn.proofs.entries.entries_more.Goals as goal

pub returns : goal.returns
returns c = entries_more
