use Rattle.mesa_file_tests.proofs.Tasks.{opened_spares}
use Rattle.mesa_file_tests.proofs.merge.merging.task_of.Goals as goal

pub returns-clause-spare : goal.returns-clause-spare
returns-clause-spare g c = λ untold. opened_spares g.R.FileReader.bytes untold c.requires.opened.0 c.requires.opened.1 c.args.table.now c.args.first c.args.spare.items c.requires.opened.2 c.requires.opened.3
