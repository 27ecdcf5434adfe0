use Rattle.mesa_file_records.proofs.Becoming.{become_changed, become_not, become_recast, become_viewed, grown_where_begun, same_columns}
use Rattle.mesa_file_records.proofs.lineages.tables_become.Goals as goal

pub returns-clause-begins : goal.returns-clause-begins
returns-clause-begins c = become_not

pub returns-clause-changed : goal.returns-clause-changed
returns-clause-changed c = λ was now change is rule become. become_changed was now change is rule become

pub returns-clause-viewed : goal.returns-clause-viewed
returns-clause-viewed c = become_viewed

pub returns-clause-recast : goal.returns-clause-recast
returns-clause-recast c = become_recast

pub returns-clause-grown : goal.returns-clause-grown
returns-clause-grown c = grown_where_begun

pub returns-clause-still : goal.returns-clause-still
returns-clause-still c = same_columns
