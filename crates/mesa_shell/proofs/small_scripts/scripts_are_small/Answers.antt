use Rattle.mesa_shell.proofs.Small.{scripts_small}
use Rattle.mesa_shell.proofs.small_scripts.scripts_are_small.Goals as goal

pub returns : goal.returns
returns c bytes script is = scripts_small bytes script is
