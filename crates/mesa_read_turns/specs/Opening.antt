-- What a query's first turn leaves.
use Rattle.std.specs.Prelude.{◌≡◌, ℕ, List, map, Bool, false, Option, None, Some, IsTrue, Result, Ok, Err}
use Rattle.mesa_read_turns.specs.Seeing.{catalogue_asked, pinned_asked}
use Rattle.mesa_pick_files.specs.mesa_catalog_records.Names.{relation_of}
use Rattle.mesa_disk.specs.Image.{Image}
use Rattle.mesa_filter.specs.Filter.{are_within}
use Rattle.mesa_filter.specs.Query.{BuiltQuery, IsQueryOf, group_kinds}
use Rattle.mesa_filter.specs.declared.words.QueryWords.{QueryWords}
use Rattle.mesa_filter.specs.declared.words.VersionWord.{VersionWord}
use Rattle.mesa_filter.specs.declared.words.VersionWord.TheVariants as asks
use Rattle.mesa_engine.specs.mesa_store_spec.Catalog.{Catalog, meta_at}
use Rattle.mesa_engine.specs.EngineState.{EngineState, books_of}
use Rattle.mesa_engine.specs.Turned.{queried_state}
use Rattle.mesa_engine.specs.Failure.{cause_in}
use Rattle.mesa_engine.specs.declared.failure.Failure.{Failure}
use Rattle.mesa_engine.specs.Memory.{hold_now}
use Rattle.mesa_model.specs.Query.{Answer}
use Rattle.mesa_engine.specs.mesa_store_spec.Planned.{planned}
use Rattle.mesa_pick_files.specs.Read.{IsPinnedFor, SomeUnsound, relation_read}
use Rattle.mesa_pick_files.specs.Files.{want_in}
use Rattle.mesa_validate.specs.Found.{IsAnswered, Sees, columns_at, version_in}
use Rattle.mesa_validate.specs.Ordered.{as_read}
use Rattle.mesa_validate.specs.declared.found.Found.{Found}
use Rattle.mesa_engine.specs.mesa_history_spec.Rows.{no_rows}
use Rattle.mesa_open_files.specs.declared.querying.Pinned.{Pinned}
use Rattle.mesa_engine.specs.mesa_invariant_spec.Causes.{is_read_fault, outcome_of}
use Rattle.mesa_engine.specs.mesa_invariant_spec.Undamaged.{is_damaged}

-- whether a fault of the disk is why there is nothing
abbrev pub is_unread : {T : Type 0} → Result T Failure → Bool
is_unread (Ok x) = false
is_unread (Err failure) = is_read_fault (cause_in failure)

-- The state once a session's query is answered at a position: the query holds all files that are named in its turn, until it is closed; at a pin it holds none, since the pin does.
abbrev pub asked_state : EngineState → ℕ → VersionWord → ℕ → EngineState
asked_state l session asks.Latest position = queried_state l session (hold_now l position)
asked_state l session (asks.At version) position = queried_state l session (hold_now l position)
asked_state l session (asks.Pin token) position = l

-- what is found in a catalogue, as it is read: a query of a table by the order that is chosen for it
abbrev pub read_in : Catalog → Found → Found
read_in c f = as_read (meta_at c f.relation.table).lineage f

-- A session's query has the files of what it finds in the catalogue that it sees, as it is read, at the version that it asks of its table.
pub record HasItsFiles {R : Type 0} (bytes : R → Option (List ℕ)) (faults : R → ℕ) (told : Option Image) (l : EngineState) (session : ℕ) (words : QueryWords) (p : Pinned R) : Type 0 where
  pub catalogue : Catalog
  pub asked : catalogue_asked l session words.version ≡ Some catalogue
  pub found : Found
  pub sees : Sees catalogue (pinned_asked l session words.version) words session (books_of no_rows l).bare
  pub relation : relation_of catalogue words.relation ≡ Some found.relation
  pub version : version_in catalogue (pinned_asked l session words.version) words.version found.relation.table ≡ Ok found.query.version
  pub answered : IsAnswered catalogue (pinned_asked l session words.version) words found
  pub query : IsQueryOf (columns_at catalogue found.relation) found.query
  pub within : IsTrue (are_within found.query.kinds found.query.asked.terms)
  pub kinds : group_kinds (read_in catalogue found).query ≡ group_kinds found.query
  pub files : IsPinnedFor bytes faults told (meta_at catalogue found.relation.table) (read_in catalogue found) p

-- An answer's page is of this version, under the heading of this query.
pub record IsHeaded (query : BuiltQuery) (version : ℕ) (answer : Answer) : Type 0 where
  pub at : answer.page.version ≡ version
  pub heading : answer.heading ≡ record { kinds = group_kinds query; prefix = query.prefix }

-- Of the files of what a session's query finds in the catalogue that it sees, as it is read, one isn't the recorded one.
pub record HasUnsoundFile (told : Option Image) (l : EngineState) (session : ℕ) (words : QueryWords) : Type 0 where
  pub opened : l.closed ≡ None
  pub catalogue : Catalog
  pub asked : catalogue_asked l session words.version ≡ Some catalogue
  pub found : Found
  pub relation : relation_of catalogue words.relation ≡ Some found.relation
  pub unsound : SomeUnsound told (map want_in (relation_read (meta_at catalogue found.relation.table).lineage (read_in catalogue found).relation.view (planned (meta_at catalogue found.relation.table) (read_in catalogue found).query.version)))

-- whether damage is why there is nothing
abbrev pub tells_damage : Failure → Bool
tells_damage failure = is_damaged (outcome_of (cause_in failure))
