use Rattle.mesa_shell.proofs.Life.{life_law}
use Rattle.mesa_shell.proofs.small_scripts.contents_are_folds_of_all_batches.Goals as goal

pub returns : goal.returns
returns c = life_law
