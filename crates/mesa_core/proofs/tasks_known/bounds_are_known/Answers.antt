use Rattle.mesa_core.proofs.Bounded.{task_bounded}
use Rattle.mesa_core.proofs.tasks_known.bounds_are_known.Goals as goal

pub returns : goal.returns
returns g c was l known task bounded = task_bounded g.R.FileReader.bytes was l c.args.task.now known task bounded
