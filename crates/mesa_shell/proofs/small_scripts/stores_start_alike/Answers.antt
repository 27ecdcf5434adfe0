use Rattle.mesa_shell.proofs.Alike.{start_alike}
use Rattle.mesa_shell.proofs.small_scripts.stores_start_alike.Goals as goal

pub returns : goal.returns
returns c = start_alike
