-- What is told of a load's record.
use Rattle.std.specs.Prelude.{◌≡◌, ℕ, ◌-◌, ◌<◌, List, [], ◌∷◌, map, flat_map, length, true, nat_lt, if◌then◌else◌, Option, None, Some, slice_index_or, Ok, ⊤}
use Rattle.mesa_columns.specs.declared.rows.Row.{Row}
use Rattle.mesa_columns.specs.declared.views.View.{View}
use Rattle.mesa_pick_files.specs.mesa_schema.Changes.{columns_of}
use Rattle.mesa_pick_files.specs.mesa_schema.Views.{view_rows}
use Rattle.mesa_batch.specs.declared.words.RowWords.{RowWords}
use Rattle.mesa_batch.specs.Batch.{Placed}
use Rattle.mesa_disk.specs.Files.{HasDistinctIds, files_of}
use Rattle.mesa_disk.specs.declared.moving.Adoption.{Adoption}
use Rattle.mesa_engine.specs.mesa_commit.Turn.{made_ids, told_files}
use Rattle.mesa_model.specs.Load.{load_batch, with_batch}
use Rattle.mesa_model.specs.Warehouse.{Warehouse}
use Rattle.mesa_model.specs.declared.replies.Reply.TheVariants as reply
use Rattle.mesa_record.specs.declared.record.Part.{Part}
use Rattle.mesa_record.specs.declared.record.Record.TheVariants as record_of
use Rattle.mesa_record.specs.Rules.{keeps_rules}
use Rattle.mesa_engine.specs.mesa_store_spec.Catalog.{Catalog}
use Rattle.mesa_engine.specs.mesa_store_spec.Contents.{Rows}
use Rattle.mesa_engine.specs.mesa_store_spec.Fitting.{brought, fits}
use Rattle.mesa_engine.specs.mesa_store_spec.Sound.{wants}
use Rattle.mesa_engine.specs.mesa_store_spec.Brought.{AreTold, BringsAll}
use Rattle.mesa_engine.specs.mesa_store_spec.Ids.{brought_ids}
use Rattle.mesa_catalog.specs.Lookups.{sight_of}
use Rattle.mesa_engine.specs.mesa_history_spec.Rows.{no_rows}
use Rattle.mesa_open_files.specs.Batches.{Share, shares}
use Rattle.mesa_engine.specs.EngineState.{EngineState, books_of, next_id}
use Rattle.mesa_engine.specs.Recorded.{Adopts}
use Rattle.mesa_file_records.specs.declared.publishing.Published.{Published}

-- ---- the rows that a batch brings

-- the rows of a part's files: the table's, and then each view's
abbrev pub rows_of_share : Share → List (List Row)
rows_of_share share = share.rows ∷ map (λ (v : View). view_rows (columns_of share.lineage) v share.rows) share.lineage.views

-- the rows of a batch's files, in the order of their ids
abbrev pub rows_brought : Catalog → List Placed → List (List Row)
rows_brought c batch = flat_map rows_of_share (shares (sight_of c) batch)

-- these rows of the files whose ids are before a next one, and those of the files with ids from it on
abbrev pub rows_with : Rows → ℕ → List (List Row) → Rows
rows_with rows next more id = if nat_lt id next then rows id else slice_index_or more (id - next) []

-- the rows once a batch is published
abbrev pub rows_later : EngineState → List Placed → Rows → Rows
rows_later l batch rows = rows_with rows (next_id l) (rows_brought l.catalogue batch)

-- ---- a load

-- the warehouse without rows of a state
abbrev pub bare_of : EngineState → Warehouse
bare_of l = (books_of no_rows l).bare

-- Files that tell their bytes.
abbrev pub AllTell : {M : Type 0} → (M → Option (List ℕ)) → List (Adoption M) → Type 0
AllTell bytes [] = ⊤
AllTell bytes (a ∷ made) = ((b : List ℕ) × (bytes a.made ≡ Some b)) × AllTell bytes made

-- A batch is published by a record that keeps the rules of records and fits: its parts bring the batch's rows to the tables, and its files have true references, are those that are made, each with its bytes where they are told, and get the next ids.
pub record IsPublished {M : Type 0} (bytes : M → Option (List ℕ)) (l : EngineState) (batch : List Placed) (p : Published M) : Type 0 where
  pub parts : List Part
  pub entry : p.entry ≡ record_of.Publish l.catalogue.next parts
  pub rules : keeps_rules p.entry ≡ true
  pub fitting : fits l.catalogue p.entry ≡ true
  pub brings : (rows : Rows) → BringsAll (rows_later l batch rows) parts batch 0 l.catalogue.tables
  pub told : (rows : Rows) → AreTold (rows_later l batch rows) l.catalogue p.entry
  pub agree : (rows : Rows) (id : ℕ) → id < next_id l → rows_later l batch rows id ≡ rows id
  pub files : (rows : Rows) → AllTell bytes p.made.items → files_of bytes p.made.items ≡ told_files (wants (rows_later l batch rows) (brought l.catalogue p.entry))
  pub ids : made_ids (files_of bytes p.made.items) ≡ brought_ids l.catalogue p.entry
  pub distinct : HasDistinctIds (files_of bytes p.made.items)
  pub adopts : Adopts l (files_of bytes p.made.items) p.adopted

-- An open state's warehouse does the load: the next version has the batch.
abbrev pub IsLoaded : EngineState → List RowWords → List Placed → Type 0
IsLoaded l words batch = l.closed ≡ None → load_batch (bare_of l) words ≡ Ok (with_batch (bare_of l) batch, reply.Loaded l.catalogue.next (length batch))
