use Rattle.mesa_shell.proofs.WellFormed.{well_formed_start}
use Rattle.mesa_shell.proofs.small_scripts.stores_start_well_formed.Goals as goal

pub returns : goal.returns
returns c = well_formed_start
