use Rattle.mesa_file_records.proofs.Growing.{grown_changed, grown_not, grown_viewed}
use Rattle.mesa_file_records.proofs.lineages.tables_grow.Goals as goal

pub returns-clause-begins : goal.returns-clause-begins
returns-clause-begins c = grown_not

pub returns-clause-changed : goal.returns-clause-changed
returns-clause-changed c = λ was now change is rule grown. grown_changed was now change is rule grown

pub returns-clause-viewed : goal.returns-clause-viewed
returns-clause-viewed c = grown_viewed
