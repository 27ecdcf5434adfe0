use Rattle.std.proofs.Common.{◌∙◌}
use Rattle.mesa_split.proofs.Rounding.{last_flushed, last_unwritten, wrote_sent}
use Rattle.mesa_split.proofs.rounds.last_round.Goals as goal

pub flush-requires-after_bounds : goal.flush-requires-after_bounds
flush-requires-after_bounds g c = λ _ _. wrote_sent g.D.Draft.bytes c.in-Ok.ensures ∙ c.requires.sent

pub returns-in-Ok : goal.returns-in-Ok
returns-in-Ok g c = last_flushed c.flush.result c.in-Ok.ensures c.flush.ensures

pub returns-in-Err : goal.returns-in-Err
returns-in-Err g c = last_unwritten c.in-Err.ensures
