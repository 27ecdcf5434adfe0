use Rattle.mesa_compare.proofs.Differences.{nowhere, same_where_none}
use Rattle.mesa_compare.proofs.laws.same_rows_differ_nowhere.Goals as goal

pub returns-clause-same : goal.returns-clause-same
returns-clause-same c = nowhere

pub returns-clause-none : goal.returns-clause-none
returns-clause-none c = same_where_none
