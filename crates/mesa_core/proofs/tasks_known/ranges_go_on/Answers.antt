use Rattle.mesa_core.proofs.Later.{range_later}
use Rattle.mesa_core.proofs.tasks_known.ranges_go_on.Goals as goal

pub returns : goal.returns
returns g c was script start origin past later below begun has = range_later g.R.FileReader.bytes was c.args.task.now script start origin past later below begun has
