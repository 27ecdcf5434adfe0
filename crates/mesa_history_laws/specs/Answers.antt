-- Answers over the contents that the fold law gives.
use Rattle.std.specs.Prelude.{◌≡◌, ℕ, List, Option, Some, None, Ok}
use Rattle.mesa_history_spec.specs.mesa_columns.declared.rows.Row.{Row}
use Rattle.mesa_history_spec.specs.mesa_columns.declared.views.View.{View}
use Rattle.mesa_history_spec.specs.mesa_columns.Columns.{Columns}
use Rattle.mesa_history_spec.specs.mesa_schema.Changes.{columns_of, epoch_of}
use Rattle.mesa_history_spec.specs.mesa_schema.Views.{view_rows}
use Rattle.mesa_history_spec.specs.mesa_filter.declared.words.QueryWords.{QueryWords}
use Rattle.mesa_history_spec.specs.mesa_filter.declared.words.VersionWord.{VersionWord}
use Rattle.mesa_history_spec.specs.mesa_filter.declared.words.VersionWord.TheVariants as asks
use Rattle.mesa_history_spec.specs.mesa_filter.Asked.{Asked, asked_of}
use Rattle.mesa_history_spec.specs.mesa_filter.Resume.{resume_of}
use Rattle.mesa_history_spec.specs.mesa_model.declared.commands.Script.{Script}
use Rattle.mesa_history_spec.specs.mesa_model.declared.entries.Entry.{Entry}
use Rattle.mesa_history_spec.specs.mesa_model.Warehouse.{Pin, Store, Table}
use Rattle.mesa_history_spec.specs.mesa_model.Versions.{version_asked}
use Rattle.mesa_history_spec.specs.mesa_model.Pins.{pin_of}
use Rattle.mesa_history_spec.specs.mesa_model.Page.{page_of}
use Rattle.mesa_history_spec.specs.mesa_model.Relations.{Relation, relation_columns, relation_of}
use Rattle.mesa_history_spec.specs.mesa_model.Query.{Answer, answer_rows, heading_of}
use Rattle.mesa_history_spec.specs.Law.{law_content}
use Rattle.mesa_history_spec.specs.Run.{State}
use Rattle.mesa_history_laws.specs.Given.{WasGiven, warehouse_after}

-- a table's rows, or those of a view of it
abbrev rows_seen : Columns → Option View → List Row → List Row
rows_seen s None rows = rows
rows_seen s (Some view) rows = view_rows s view rows

-- the rows that a law gives a relation at a version: a table's, or for a view its table's, grouped
abbrev pub law_rows : (ℕ → Table → ℕ → List Row) → Relation → ℕ → List Row
law_rows law r version = rows_seen (columns_of r.table.lineage) r.view (law r.number r.table version)

-- An answer by a law: the page that is asked for of the rows that the law gives the relation at a version, filtered and grouped as it is asked, and printed as such rows are.
pub record IsByLaw (law : ℕ → Table → ℕ → List Row) (store : Store) (words : QueryWords) (version : ℕ) (answer : Answer) : Type 0 where
  pub relation : Relation
  pub asked : Asked
  pub resume : Option (List ℕ)
  pub named : relation_of store words.relation ≡ Some relation
  pub asks : asked_of (relation_columns relation) words ≡ Ok asked
  pub resumes : resume_of (relation_columns relation) words.relation version (epoch_of relation.table.lineage) asked.columns words.resume ≡ Ok resume
  pub page : answer.page ≡ page_of version words.limit resume (answer_rows (relation_columns relation) asked (law_rows law relation version))
  pub heading : answer.heading ≡ heading_of (relation_columns relation) words version (epoch_of relation.table.lineage) asked

-- An answer from the fold: by the fold law, after a history.
abbrev pub IsFromTheFold : Script → State → List Entry → Store → QueryWords → ℕ → Answer → Type 0
IsFromTheFold script start h store words version answer = IsByLaw (law_content script start h) store words version answer

-- ---- after a history

-- An answer over the present tables: it is from the fold of all batches accepted so far, at the version asked of the relation's table.
pub record IsFromThePresent (script : Script) (start : State) (h : List Entry) (words : QueryWords) (answer : Answer) : Type 0 where
  pub version : ℕ
  pub fold : IsFromTheFold script start h (warehouse_after script start h).store words version answer
  pub asked : version_asked (warehouse_after script start h) fold.relation.table.oldest words.version ≡ Ok version

-- An answer by a pin: the pin was given in the history, and the answer is from the fold of the batches accepted before that, at the pin's version.
pub record IsFromItsPin (script : Script) (start : State) (h : List Entry) (session token : ℕ) (words : QueryWords) (answer : Answer) : Type 0 where
  pub pin : Pin
  pub held : pin_of (warehouse_after script start h) session token ≡ Some pin
  pub given : WasGiven script start h pin
  pub fold : IsFromTheFold script start given.before (warehouse_after script start given.before).store words pin.version answer

-- An answer after a history to a query that asks for a version is from the fold.
abbrev pub IsFromItsVersion : Script → State → List Entry → ℕ → QueryWords → Answer → VersionWord → Type 0
IsFromItsVersion script start h session words answer asks.Latest = IsFromThePresent script start h words answer
IsFromItsVersion script start h session words answer (asks.At version) = IsFromThePresent script start h words answer
IsFromItsVersion script start h session words answer (asks.Pin token) = IsFromItsPin script start h session token words answer
