-- What a query finds in a catalogue, and the answer that it stands for.
use Rattle.std.specs.Prelude.{◌≡◌, ℕ, [], map, option_and_then, slice_get, None, Option, Some, Result, Ok}
use Rattle.mesa_schema.specs.Changes.{epoch_of}
use Rattle.mesa_catalog.specs.mesa_columns.Columns.{Columns}
use Rattle.mesa_filter.specs.declared.words.QueryWords.{QueryWords}
use Rattle.mesa_filter.specs.declared.words.VersionWord.{VersionWord}
use Rattle.mesa_filter.specs.Query.{group_kinds}
use Rattle.mesa_model.specs.declared.replies.Refusal.{Refusal}
use Rattle.mesa_model.specs.Page.{page_of}
use Rattle.mesa_model.specs.Query.{Answer, answer_rows, query_answer, store_asked, version_seen}
use Rattle.mesa_model.specs.Relations.{Relation, relation_columns, relation_content}
use Rattle.mesa_model.specs.Versions.{version_asked}
use Rattle.mesa_model.specs.Warehouse.{Store, Table, Warehouse, table_at}
use Rattle.mesa_catalog.specs.mesa_store_spec.Catalog.{TableMeta, Catalog, meta_at}
use Rattle.mesa_catalog.specs.mesa_catalog_table.declared.relation.Relation.{Relation as Place}
use Rattle.mesa_catalog.specs.Lookups.{known_as}
use Rattle.mesa_binding.specs.Built.{IsBuiltOf}
use Rattle.mesa_validate.specs.declared.found.Found.{Found}
use Rattle.mesa_validate.specs.Seen.{known_in}

-- ---- relations

-- the view at a place of a table, if the place is a view's
abbrev pub relation_with : Table → Place → Relation
relation_with t p = record { number = p.table; table = t; view = option_and_then (slice_get t.lineage.views) p.view }

-- the relation at a place of a store
abbrev pub relation_seen : Store → Place → Relation
relation_seen s p = relation_with (table_at s p.table) p

-- a table without rows
abbrev pub without_rows : TableMeta → Table
without_rows t = record { name = t.name; lineage = t.lineage; totals = t.totals; oldest = t.oldest; contents = [] }

-- the columns of the relation at a place of a catalogue
abbrev pub columns_at : Catalog → Place → Columns
columns_at c p = relation_columns (relation_with (without_rows (meta_at c p.table)) p)

-- ---- what is seen

-- a warehouse of a catalogue's tables and versions, without rows
abbrev pub of_catalog : Catalog → Warehouse
of_catalog c = record { store = record { tables = map without_rows c.tables; floor = c.floor }; next = c.next; given = []; pins = []; closed = None }

-- the version of the catalogue's table of a number that is asked: a pin's own, or one at which the table can be queried
abbrev pub version_in : Catalog → Option ℕ → VersionWord → ℕ → Result ℕ Refusal
version_in c None asked number = version_asked (of_catalog c) (meta_at c number).oldest asked
version_in c (Some version) asked number = Ok version

-- A session's query sees the catalogue's tables in a warehouse, present ones or those of a pin, and this version of them, or no version for this refusal.
pub record Sees (c : Catalog) (pinned : Option ℕ) (words : QueryWords) (session : ℕ) (w : Warehouse) : Type 0 where
  pub opened : w.closed ≡ None
  pub store : Store
  pub asked : store_asked w session words.version ≡ Ok store
  pub tables : known_in store ≡ map known_as c.tables
  pub seen : (number : ℕ) → version_seen w store (table_at store number) words.version ≡ version_in c pinned words.version number

-- What is found is what the words ask of its relation.
abbrev pub IsFound : Catalog → QueryWords → Found → Type 0
IsFound c words f = IsBuiltOf (columns_at c f.relation) f.query.version (epoch_of (meta_at c f.relation.table).lineage) words f.query

-- the answer to a query over a store
abbrev pub answer_found : Store → Found → Answer
answer_found s f = record {
  page = page_of f.query.version f.query.limit f.query.resume (answer_rows (relation_columns (relation_seen s f.relation)) f.query.asked (relation_content (relation_seen s f.relation) f.query.version));
  heading = record { kinds = group_kinds f.query; prefix = f.query.prefix };
}

-- Every warehouse in which the query sees the catalogue's tables answers it so.
abbrev pub IsAnswered : Catalog → Option ℕ → QueryWords → Found → Type 0
IsAnswered c pinned words f = (w : Warehouse) (session : ℕ) (s : Sees c pinned words session w) → query_answer w session words ≡ Ok (answer_found s.store f)
