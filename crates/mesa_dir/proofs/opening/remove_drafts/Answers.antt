use Rattle.mesa_dir.specs.Opening.{none}
use Rattle.mesa_dir.proofs.opening.remove_drafts.Goals as goal

pub names-init : goal.names-init
names-init g c = none
