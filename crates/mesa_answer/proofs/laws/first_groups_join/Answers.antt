use Rattle.mesa_answer.proofs.Joined.{joins_first}
use Rattle.mesa_answer.proofs.laws.first_groups_join.Goals as goal

pub returns : goal.returns
returns c = joins_first
