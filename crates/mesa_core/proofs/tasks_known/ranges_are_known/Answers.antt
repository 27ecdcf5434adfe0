use Rattle.mesa_core.proofs.Same.{range_known}
use Rattle.mesa_core.proofs.tasks_known.ranges_are_known.Goals as goal

pub returns : goal.returns
returns g c was written has = range_known g.R.FileReader.bytes was c.args.task.now written has
