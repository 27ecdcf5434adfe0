use Rattle.mesa_core.proofs.Later.{lease_holds}
use Rattle.mesa_core.proofs.tasks_known.leases_hold.Goals as goal

pub returns : goal.returns
returns c script start past later claim work ranges has live = lease_holds script start past later claim work ranges has live
