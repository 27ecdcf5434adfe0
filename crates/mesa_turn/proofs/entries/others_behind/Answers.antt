use Rattle.mesa_turn.proofs.Laws.{others_found, others_first, others_second, others_more}
use Rattle.mesa_turn.proofs.entries.others_behind.Goals as goal

pub returns : goal.returns
returns c = record { found = others_found; first = others_first; second = others_second; more = others_more }
