use Rattle.mesa_core.proofs.Going.{table_becomes, table_stays}
use Rattle.mesa_core.proofs.tasks_known.tables_go_on.Goals as goal

pub returns-clause-becomes : goal.returns-clause-becomes
returns-clause-becomes c = λ script r later number there is. table_becomes script r later number there is

pub returns-clause-there : goal.returns-clause-there
returns-clause-there c = λ script r later number there is. table_stays script r later number there is
