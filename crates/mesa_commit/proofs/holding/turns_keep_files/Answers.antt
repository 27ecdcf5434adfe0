use Rattle.mesa_commit.proofs.Swapping.{turns_keep}
use Rattle.mesa_commit.proofs.holding.turns_keep_files.Goals as goal

pub returns : goal.returns
returns c = turns_keep
