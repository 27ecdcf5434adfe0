-- What files a batch is to have.
use Rattle.std.specs.Prelude.{◌≡◌, ◌<◌, ℕ, List, [], ◌∷◌, length, map, flat_map, Bool, true, false, Option, Result, Ok, Err, ⊤}
use Rattle.std.specs.List.{AllByRecursion, list_any}
use Rattle.mesa_open_files.specs.mesa_value.declared.Agg.{Agg}
use Rattle.mesa_open_files.specs.mesa_columns.declared.rows.Row.{Row}
use Rattle.mesa_open_files.specs.mesa_columns.Columns.{Columns}
use Rattle.mesa_schema.specs.Changes.{Lineage, columns_of}
use Rattle.mesa_open_files.specs.mesa_fold.Folded.{folded}
use Rattle.mesa_open_files.specs.mesa_columns.Rows.{AreRowsOf}
use Rattle.mesa_batch.specs.Batch.{Placed, columns_at, rows_for}
use Rattle.mesa_batch.specs.declared.words.BatchError.{BatchError}
use Rattle.mesa_batch.specs.Gathered.{Batched, rows_at}
use Rattle.mesa_batch.specs.Glance.{Known, Sight, columns_in, tables_of}
use Rattle.mesa_batch.specs.Totals.{abs_totals, capped}
use Rattle.mesa_open_files.specs.Made.{Content, IsMadeFile, content_of}
use Rattle.mesa_open_files.specs.Batches.{Share, is_over, shares_from}
use Rattle.mesa_open_files.specs.declared.made.MadeFile.{MadeFile}
use Rattle.mesa_load.specs.FilesToWrite.{IsFit, content_in}
use Rattle.mesa_load.specs.declared.planning.Plan.{Plan}
use Rattle.mesa_load.specs.declared.planning.Planned.{Planned}

-- A batch by tables is one that was read by the tables of a glance: each table's rows are the fold of the batch's, and have its columns.
pub record IsBatched (sight : Sight) (batch : List Placed) (b : Batched) : Type 0 where
  pub rows : (table : ℕ) (aggs : List Agg) → rows_at table b ≡ folded aggs (rows_for table batch ∷ [])
  pub totals : (table : ℕ) (s : Columns) → abs_totals s (rows_at table b) ≡ abs_totals s (rows_for table batch)
  pub form : (table : ℕ) → AreRowsOf (columns_at table (tables_of sight)) (rows_at table b)
  pub columns : 0 < length batch → b.columns ≡ columns_in sight

-- a load's rows were read as a batch, which these are by their tables
abbrev pub IsRead : Result (List Placed) BatchError → Sight → Batched → Type 0
IsRead (Ok batch) sight b = IsBatched sight batch b
IsRead (Err refusal) sight b = ⊥

-- whose rows the files of a table are to have: the table's own, and then its views'
abbrev pub table_contents : Lineage → List Row → List Content
table_contents l rows = record { columns = columns_of l; rows = rows } ∷ map (content_of (columns_of l) rows) l.views

-- and those of a part
abbrev pub contents_of : Share → List Content
contents_of share = table_contents share.lineage share.rows

-- A part is planned: its table, how many views it has, and its totals.
pub record IsPlanned (share : Share) (p : Planned) : Type 0 where
  pub table : p.table ≡ share.table
  pub count : p.views ≡ length share.lineage.views
  pub totals : p.totals ≡ capped share.totals

-- each of the parts is planned
abbrev pub ArePlanned : List Share → List Planned → Type 0
ArePlanned [] [] = ⊤
ArePlanned [] (p ∷ ps) = ⊥
ArePlanned (share ∷ more) [] = ⊥
ArePlanned (share ∷ more) (p ∷ ps) = IsPlanned share p × ArePlanned more ps

-- The parts of a batch are planned, and their files: none may be written where a total passes the bound.
pub record IsPlan (batch : List Placed) (tables : List Known) (p : Plan) : Type 0 where
  pub parts : ArePlanned (shares_from batch 0 tables) p.parts.items
  pub contents : map content_in p.jobs.items ≡ flat_map contents_of (shares_from batch 0 tables)
  pub over : p.over ≡ list_any is_over (shares_from batch 0 tables)
  pub fit : p.over ≡ false → AllByRecursion IsFit p.jobs.items

-- One file for each of these contents.
abbrev pub AreMade : {M : Type 0} → (M → Option (List ℕ)) → (M → ℕ) → List Content → List (MadeFile M) → Type 0
AreMade bytes id_of [] [] = ⊤
AreMade bytes id_of [] (file ∷ files) = ⊥
AreMade bytes id_of (content ∷ contents) [] = ⊥
AreMade bytes id_of (content ∷ contents) (file ∷ files) = IsMadeFile bytes id_of content file × AreMade bytes id_of contents files

-- The files of a batch: none where a total passes the bound, and else one for each of these contents.
abbrev pub HaveFiles : {M : Type 0} → (M → Option (List ℕ)) → (M → ℕ) → Bool → List Content → List (MadeFile M) → Type 0
HaveFiles bytes id_of true contents files = files ≡ []
HaveFiles bytes id_of false contents files = AreMade bytes id_of contents files
