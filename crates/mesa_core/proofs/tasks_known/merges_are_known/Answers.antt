use Rattle.mesa_core.proofs.MergedTasks.{merge_known}
use Rattle.mesa_core.proofs.tasks_known.merges_are_known.Goals as goal

pub returns : goal.returns
returns g c was l known task merged = merge_known g.R.FileReader.bytes g.M.Made.bytes g.M.Made.id_of was l c.args.task.now c.args.delta.now known task merged
