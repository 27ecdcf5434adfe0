use Rattle.mesa_turn.proofs.Laws.{entries_kept_first, entries_kept_second}
use Rattle.mesa_turn.proofs.entries.entries_kept_in.Goals as goal

pub returns-clause-first : goal.returns-clause-first
returns-clause-first c = entries_kept_first

pub returns-clause-second : goal.returns-clause-second
returns-clause-second c = entries_kept_second
