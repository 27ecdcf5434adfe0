use Rattle.mesa_core.proofs.MergedTasks.{grant_known}
use Rattle.mesa_core.proofs.tasks_known.grants_are_known.Goals as goal

pub returns : goal.returns
returns g c was task = grant_known g.R.FileReader.bytes was c.args.task.now task
