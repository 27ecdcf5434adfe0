use Rattle.mesa_turn.proofs.Laws.{entries_all}
use Rattle.mesa_turn.proofs.entries.entries_all.Goals as goal

pub returns : goal.returns
returns c = entries_all
