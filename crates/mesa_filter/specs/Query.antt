-- Queries that passed their checks.
use Rattle.std.specs.Prelude.{◌≡◌, ℕ, List, length, Bool, nat_lt, Option, None, Result, Ok, IsTrue}
use Rattle.std.specs.List.{list_all}
use Rattle.mesa_list.specs.Checks.{◌>>=◌}
use Rattle.mesa_fold.specs.mesa_key.declared.KeyType.{KeyType}
use Rattle.mesa_fold.specs.mesa_columns.Columns.{Columns, kinds_of, chosen}
use Rattle.mesa_filter.specs.declared.words.QueryWords.{QueryWords}
use Rattle.mesa_filter.specs.declared.words.QueryError.{QueryError}
use Rattle.mesa_filter.specs.Asked.{Asked, asked_of, replace_asked}
use Rattle.mesa_filter.specs.Resume.{resume_prefix, resume_of}

-- A query of a relation: the types of the relation's key columns, what is asked of it, the version that answers, the most rows of a page, the group key after which the page begins, and what stands before a group key in the query's resume keys.
pub record BuiltQuery : Type 0 where
  pub kinds : List KeyType
  pub asked : Asked
  pub version : ℕ
  pub limit : ℕ
  pub resume : Option (List ℕ)
  pub prefix : List ℕ

-- the types of a query's group columns
abbrev pub group_kinds : BuiltQuery → List KeyType
group_kinds q = chosen q.asked.columns q.kinds

-- each is the place of one of these
abbrev pub are_places : {X : Type 0} → List X → List ℕ → Bool
are_places xs places = list_all (λ place. nat_lt place (length xs)) places

-- A query of a relation with these columns: its places are those of columns, and no replace column is asked without every key column.
pub record IsQueryOf (s : Columns) (q : BuiltQuery) : Type 0 where
  pub kinds : q.kinds ≡ kinds_of s
  pub columns : IsTrue (are_places s.keys q.asked.columns)
  pub values : IsTrue (are_places s.values q.asked.values)
  pub replace : replace_asked s q.asked.columns q.asked.values ≡ None

-- the query of a relation of the schema, at a version and an epoch, that asks this from behind a group key
abbrev pub built : Columns → List ℕ → ℕ → ℕ → QueryWords → Asked → Option (List ℕ) → BuiltQuery
built s relation version epoch words asked resume = record {
  kinds = kinds_of s;
  asked = asked;
  version = version;
  limit = words.limit;
  resume = resume;
  prefix = resume_prefix s relation version epoch asked.columns;
}

-- The query of a relation of the schema, at a version and an epoch, that these words ask, or its first refusal: what is asked, and then the resume key.
abbrev pub query_of : Columns → List ℕ → ℕ → ℕ → QueryWords → Result BuiltQuery QueryError
query_of s relation version epoch words = do
  asked ← asked_of s words
  resume ← resume_of s relation version epoch asked.columns words.resume
  Ok (built s relation version epoch words asked resume)
