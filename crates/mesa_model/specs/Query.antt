-- Answering a query.
use Rattle.std.specs.Prelude.{ℕ, List, Option, Result, Ok}
use Rattle.std.specs.Option.{ok_or}
use Rattle.mesa_batch.specs.mesa_list.Checks.{◌>>=◌, ◌>>◌, refused_as}
use Rattle.mesa_batch.specs.mesa_key.declared.KeyType.{KeyType}
use Rattle.mesa_columns.specs.declared.rows.Row.{Row}
use Rattle.mesa_columns.specs.Columns.{Columns, kinds_of, chosen}
use Rattle.mesa_batch.specs.mesa_schema.Changes.{epoch_of}
use Rattle.mesa_batch.specs.mesa_fold.Folded.{grouped}
use Rattle.mesa_filter.specs.declared.words.VersionWord.{VersionWord}
use Rattle.mesa_filter.specs.declared.words.VersionWord.TheVariants as asks
use Rattle.mesa_filter.specs.declared.words.QueryWords.{QueryWords}
use Rattle.mesa_filter.specs.Filter.{filtered}
use Rattle.mesa_filter.specs.Asked.{Asked, asked_of}
use Rattle.mesa_filter.specs.Resume.{resume_prefix, resume_of}
use Rattle.mesa_model.specs.declared.replies.Page.{Page}
use Rattle.mesa_model.specs.declared.replies.Refusal.{Refusal}
use Rattle.mesa_model.specs.declared.replies.Refusal.TheVariants as no
use Rattle.mesa_model.specs.Warehouse.{Table, Store, Warehouse}
use Rattle.mesa_model.specs.Relations.{Relation, relation_of, relation_columns, relation_content}
use Rattle.mesa_model.specs.Refusals.{no_such_table, refuse_closed, query_refusal}
use Rattle.mesa_model.specs.Versions.{version_asked}
use Rattle.mesa_model.specs.Pins.{pin_of}
use Rattle.mesa_model.specs.Page.{page_of}

-- How an answer's rows are printed: the types of its group columns, and what stands before the group key in its resume key.
pub record Heading : Type 0 where
  pub kinds : List KeyType
  pub prefix : List ℕ

-- The answer to a query: a page, and how its rows are printed.
pub record Answer : Type 0 where
  pub page : Page
  pub heading : Heading

-- the tables that a query sees: those of the pin that it names, or the present ones
abbrev pub store_asked : Warehouse → ℕ → VersionWord → Result Store Refusal
store_asked w session asks.Latest = Ok w.store
store_asked w session (asks.At version) = Ok w.store
store_asked w session (asks.Pin token) = do
  pin ← ok_or (pin_of w session token) (no.NoPin token)
  Ok pin.store

-- the version that a query asks of a table among these: a pin's own, or one at which the table can be queried
abbrev pub version_seen : Warehouse → Store → Table → VersionWord → Result ℕ Refusal
version_seen w store t asks.Latest = version_asked w t.oldest asks.Latest
version_seen w store t (asks.At version) = version_asked w t.oldest (asks.At version)
version_seen w store t (asks.Pin token) = Ok store.floor

-- The rows of an answer: those that meet the filter, grouped by the group columns.
abbrev pub answer_rows : Columns → Asked → List Row → List Row
answer_rows s asked rows = grouped s asked.columns asked.values (filtered s asked.terms rows)

-- how the rows are printed of a query of a relation with these columns
abbrev pub heading_of : Columns → QueryWords → ℕ → ℕ → Asked → Heading
heading_of s words version epoch asked = record { kinds = chosen asked.columns (kinds_of s); prefix = resume_prefix s words.relation version epoch asked.columns }

-- the answer over a relation's content at a version, after a resume key
abbrev pub answer_over : Relation → QueryWords → ℕ → Asked → Option (List ℕ) → Answer
answer_over relation words version asked resume = record {
  page = page_of version words.limit resume (answer_rows (relation_columns relation) asked (relation_content relation version));
  heading = heading_of (relation_columns relation) words version (epoch_of relation.table.lineage) asked;
}

-- The answer to a query, or the first refusal; the warehouse stays as it is.
abbrev pub query_answer : Warehouse → ℕ → QueryWords → Result Answer Refusal
query_answer w session words = do
  refuse_closed w.closed
  store ← store_asked w session words.version
  relation ← ok_or (relation_of store words.relation) no_such_table
  asked ← refused_as query_refusal (asked_of (relation_columns relation) words)
  version ← version_seen w store relation.table words.version
  resume ← refused_as query_refusal (resume_of (relation_columns relation) words.relation version (epoch_of relation.table.lineage) asked.columns words.resume)
  Ok (answer_over relation words version asked resume)
