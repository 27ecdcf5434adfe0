-- A recast's record, by the ranges that were rewritten.
use Rattle.std.specs.Prelude.{◌≡◌, ℕ, ◌+◌, ◌≤◌, List, [], ◌∷◌, ◌++◌, length, find, ◌&&◌, ◌==◌, Option, None, Some, IfSome, IsTrue, ⊤}
use Rattle.std.specs.List.{AllByRecursion}
use Rattle.mesa_history_spec.specs.mesa_columns.declared.rows.Row.{Row}
use Rattle.mesa_history_spec.specs.mesa_schema.Changes.{Lineage, columns_of, epoch_of}
use Rattle.mesa_history_spec.specs.mesa_columns.Columns.{Columns}
use Rattle.mesa_history_spec.specs.mesa_schema.Recasts.{Recast, recast_columns, recast_rows}
use Rattle.mesa_history_spec.specs.mesa_batch.Totals.{abs_totals}
use Rattle.mesa_history_spec.specs.Sources.{Written, range_rows, sources_from}
use Rattle.mesa_history_spec.specs.mesa_file.declared.file_ref.FileRef.{FileRef}
use Rattle.mesa_record.specs.declared.record.Files.{Files}
use Rattle.mesa_record.specs.declared.record.ViewRef.{ViewRef}
use Rattle.mesa_record.specs.declared.checkpoint.CheckpointSingle.{CheckpointSingle}
use Rattle.mesa_record.specs.declared.recasting.RecastBase.{RecastBase}
use Rattle.mesa_record.specs.declared.recasting.Recasting.{Recasting}
use Rattle.mesa_record.specs.mesa_record_fields.Rules.{is_file_ref}
use Rattle.mesa_store_spec.specs.Catalog.{Delta, Ending, TableMeta, start_in}
use Rattle.mesa_store_spec.specs.Fitting.{LiveFile, counts_columns, totals_fit}
use Rattle.mesa_store_spec.specs.Contents.{Rows}
use Rattle.mesa_store_spec.specs.Sound.{IsTold}

-- A range of versions that was rewritten: its new file with its adopted id, if it has rows, and the totals of its rows.
pub record Rewritten : Type 0 where
  pub from : ℕ
  pub to : ℕ
  pub file : Option FileRef
  pub totals : List ℕ

-- the rewritten range from one version to another
abbrev pub rewritten_at : ℕ → ℕ → List Rewritten → Option Rewritten
rewritten_at from to made = find (λ (x : Rewritten). (x.from == from) && (x.to == to)) made

abbrev pub rows_of_file : Rows → Option FileRef → List Row
rows_of_file rows None = []
rows_of_file rows (Some file) = rows file.id

abbrev pub file_live : Columns → Option FileRef → List LiveFile
file_live s None = []
file_live s (Some file) = record { columns = s; file = file } ∷ []

-- A range is rewritten: its file is true, and has the rows to which what was written in the range folds, regrouped; its totals are those of these rows. It speaks of what was written, and of no delta.
pub record IsRewritten (rows : Rows) (l : Lineage) (r : Recast) (written : List Written) (x : Rewritten) : Type 0 where
  pub rows_are : rows_of_file rows x.file ≡ recast_rows (columns_of l) r (range_rows l (epoch_of l) (sources_from x.from x.to written))
  pub told : AllByRecursion (IsTold rows) (file_live (recast_columns (columns_of l) r) x.file)
  pub totals : x.totals ≡ abs_totals (recast_columns (columns_of l) r) (rows_of_file rows x.file)

-- A rewritten range counts columns: its file has an aggregate for each value column, and it has a total for each sum column, none past 2^127 - 1.
pub record CountsRange (s : Columns) (x : Rewritten) : Type 0 where
  pub file : IfSome x.file (λ f. IsTrue (counts_columns s f))
  pub totals : IsTrue (totals_fit s x.totals)

-- What is told of a rewritten range keeps the rules of records: its file has rows, blocks and columns, and there are not too many totals.
pub record IsRuled (x : Rewritten) : Type 0 where
  pub file : IfSome x.file (λ f. IsTrue (is_file_ref f))
  pub totals : length x.totals ≤ 16

-- ---- the record

-- a delta's files once its table's file is rewritten: the view files stay
abbrev pub files_with : List ViewRef → Option FileRef → Option Files
files_with views None = None
files_with views (Some file) = Some (record { file = file; views = views })

abbrev pub files_at : List ViewRef → Option Rewritten → Option Files
files_at views None = None
files_at views (Some x) = files_with views x.file

-- in the place of a delta's files, where there are any
abbrev pub files_rewritten : ℕ → ℕ → List Rewritten → Option Files → Option Files
files_rewritten from to made None = None
files_rewritten from to made (Some f) = files_at f.views (rewritten_at from to made)

abbrev pub base_rewritten : List Rewritten → Option Ending → Option RecastBase
base_rewritten made None = None
base_rewritten made (Some e) = Some (record { to = e.to; files = files_rewritten 0 e.to made e.delta.files })

abbrev pub single_with : ℕ → ℕ → List ViewRef → List ℕ → Option FileRef → List CheckpointSingle
single_with epoch version views totals None = []
single_with epoch version views totals (Some file) = record { version = version; epoch = epoch; files = record { file = file; views = views }; totals = totals } ∷ []

abbrev pub single_at : ℕ → ℕ → List ViewRef → Option Rewritten → List CheckpointSingle
single_at epoch version views None = []
single_at epoch version views (Some x) = single_with epoch version views x.totals x.file

-- in the place of a singleton's files, where there are any
abbrev pub single_rewritten : ℕ → ℕ → List Rewritten → Option Files → List CheckpointSingle
single_rewritten epoch version made None = []
single_rewritten epoch version made (Some f) = single_at epoch version f.views (rewritten_at version version made)

-- of singletons, the first of which is of this version
abbrev pub singles_rewritten : ℕ → ℕ → List Rewritten → List Delta → List CheckpointSingle
singles_rewritten epoch version made [] = []
singles_rewritten epoch version made (d ∷ ds) = single_rewritten epoch version made d.files ++ singles_rewritten epoch (version + 1) made ds

-- The record of a recast of the table of a number: each of its ranges with rows stands as it was rewritten, with the view files that it has.
abbrev pub recasting_of : ℕ → TableMeta → Recast → List Rewritten → Recasting
recasting_of table t r made = record {
  table = table;
  epoch = epoch_of t.lineage + 1;
  keys = r.keys;
  values = r.values;
  base = base_rewritten made t.base;
  singles = singles_rewritten (epoch_of t.lineage + 1) (start_in t) made t.singles;
}

-- ---- which ranges are there

-- Files have a rewritten range, with a file.
abbrev pub IsCoveredAt : ℕ → ℕ → List Rewritten → Option Files → Type 0
IsCoveredAt from to made None = ⊤
IsCoveredAt from to made (Some f) = (x : Rewritten) × (file : FileRef) × (rewritten_at from to made ≡ Some x) × (x.file ≡ Some file)

abbrev pub AreCovered : ℕ → List Rewritten → List Delta → Type 0
AreCovered version made [] = ⊤
AreCovered version made (d ∷ ds) = IsCoveredAt version version made d.files × AreCovered (version + 1) made ds

-- Each range with rows that a table has is among the rewritten ones.
pub record Covers (made : List Rewritten) (t : TableMeta) : Type 0 where
  pub base : IfSome t.base (λ (e : Ending). IsCoveredAt 0 e.to made e.delta.files)
  pub singles : AreCovered (start_in t) made t.singles
