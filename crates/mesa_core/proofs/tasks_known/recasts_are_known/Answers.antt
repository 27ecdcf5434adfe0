use Rattle.mesa_core.proofs.SameRecasts.{bounded_known, ranges_known, recast_holds}
use Rattle.mesa_core.proofs.tasks_known.recasts_are_known.Goals as goal

pub returns-clause-ranges : goal.returns-clause-ranges
returns-clause-ranges g c = λ written has. ranges_known g.R.FileReader.bytes c.args.task.now written has

pub returns-clause-bounded : goal.returns-clause-bounded
returns-clause-bounded g c = λ has. bounded_known g.R.FileReader.bytes c.args.task.now has

pub returns-clause-holds : goal.returns-clause-holds
returns-clause-holds g c = λ other table same has. recast_holds g.R.FileReader.bytes c.args.task.now other table same has
