-- What a query that was built of words has.
use Rattle.std.specs.Prelude.{◌≡◌, ℕ, Ok}
use Rattle.mesa_model.specs.mesa_columns.Columns.{Columns}
use Rattle.mesa_filter.specs.declared.words.QueryWords.{QueryWords}
use Rattle.mesa_filter.specs.Asked.{asked_of}
use Rattle.mesa_filter.specs.Query.{BuiltQuery, built}
use Rattle.mesa_filter.specs.Resume.{resume_of}

-- A query has what these words ask of a relation with these columns, at a version and an epoch.
pub record IsBuiltOf (s : Columns) (version epoch : ℕ) (words : QueryWords) (q : BuiltQuery) : Type 0 where
  pub asked : asked_of s words ≡ Ok q.asked
  pub resume : resume_of s words.relation version epoch q.asked.columns words.resume ≡ Ok q.resume
  pub parts : q ≡ built s words.relation version epoch words q.asked q.resume
