use Rattle.mesa_core.proofs.Later.{recast_later}
use Rattle.mesa_core.proofs.tasks_known.recasts_go_on.Goals as goal

pub returns : goal.returns
returns g c script start origin past later below begun has = recast_later g.R.FileReader.bytes c.args.task.now script start origin past later below begun has
