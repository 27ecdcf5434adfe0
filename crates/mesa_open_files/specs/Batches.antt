-- Batches whose files are written.
use Rattle.std.specs.Prelude.{◌≡◌, ℕ, ◌+◌, List, [], ◌∷◌, ◌++◌, map, flat_map, Bool, true, false, nat_le, Option, Some, None, Result, Ok, Err, IsOk, ⊤}
use Rattle.std.specs.List.{list_any}
use Rattle.mesa_history_spec.specs.mesa_columns.declared.rows.Row.{Row}
use Rattle.mesa_history_spec.specs.mesa_columns.Columns.{aggs_of}
use Rattle.mesa_schema.specs.Changes.{Lineage, columns_of}
use Rattle.mesa_history_spec.specs.mesa_fold.Folded.{folded}
use Rattle.mesa_batch.specs.Batch.{Placed, batch_of, rows_for}
use Rattle.mesa_batch.specs.Glance.{Known, Sight, tables_of}
use Rattle.mesa_batch.specs.Totals.{abs_totals, capped, sum_bound}
use Rattle.mesa_batch.specs.declared.words.BatchError.{BatchError}
use Rattle.mesa_batch.specs.declared.words.RowWords.{RowWords}
use Rattle.mesa_open_files.specs.Made.{AreMadeFiles}
use Rattle.mesa_open_files.specs.declared.made.MadeFile.{MadeFile}
use Rattle.mesa_open_files.specs.declared.made.MadeFiles.{MadeFiles}
use Rattle.mesa_open_files.specs.declared.made.MadeView.{MadeView}
use Rattle.mesa_open_files.specs.declared.prepared.LoadError.{LoadError}
use Rattle.mesa_open_files.specs.declared.prepared.LoadError.TheVariants as load
use Rattle.mesa_open_files.specs.declared.prepared.Prepared.{Prepared}
use Rattle.mesa_open_files.specs.declared.prepared.PreparedPart.{PreparedPart}

-- A table's part of a batch: its number, its columns and views, its rows in the order of their keys, and for each sum column their absolute values, added up.
pub record Share : Type 0 where
  pub table : ℕ
  pub lineage : Lineage
  pub rows : List Row
  pub totals : List ℕ

-- the part of a table with these rows of the batch, if there are any
abbrev pub share_of : ℕ → Lineage → List Row → List Share
share_of table l [] = []
share_of table l (row ∷ rows) = record {
  table = table;
  lineage = l;
  rows = folded (aggs_of (columns_of l)) ((row ∷ rows) ∷ []);
  totals = abs_totals (columns_of l) (row ∷ rows);
} ∷ []

-- the parts of these tables, which are numbered from this one on
abbrev pub shares_from : List Placed → ℕ → List Known → List Share
shares_from batch table [] = []
shares_from batch table (t ∷ tables) = share_of table t.lineage (rows_for table batch) ++ shares_from batch (table + 1) tables

-- The parts of a batch: one for each table with rows, by the tables' numbers.
abbrev pub shares : Sight → List Placed → List Share
shares sight batch = shares_from batch 0 sight.tables

-- a total passes the bound of 2^127 - 1 by itself
abbrev pub is_over : Share → Bool
is_over share = list_any (λ total. nat_le sum_bound total) share.totals

-- The files of a part: none where some total of the batch passes the bound, and else its rows' and its views'.
abbrev pub HasFiles : {M : Type 0} → (M → Option (List ℕ)) → (M → ℕ) → Bool → Share → Option (MadeFiles M) → Type 0
HasFiles bytes id_of true share None = ⊤
HasFiles bytes id_of true share (Some made) = ⊥
HasFiles bytes id_of false share None = ⊥
HasFiles bytes id_of false share (Some made) = AreMadeFiles bytes id_of (columns_of share.lineage) share.lineage.views share.rows made

-- A part as it is prepared.
pub record IsPart {M : Type 0} (bytes : M → Option (List ℕ)) (id_of : M → ℕ) (over : Bool) (share : Share) (part : PreparedPart M) : Type 0 where
  pub table : part.table ≡ share.table
  pub totals : part.totals ≡ capped share.totals
  pub files : HasFiles bytes id_of over share part.files

-- each of the parts as it is prepared
abbrev pub AreParts : {M : Type 0} → (M → Option (List ℕ)) → (M → ℕ) → Bool → List Share → List (PreparedPart M) → Type 0
AreParts bytes id_of over [] [] = ⊤
AreParts bytes id_of over [] (part ∷ parts) = ⊥
AreParts bytes id_of over (share ∷ more) [] = ⊥
AreParts bytes id_of over (share ∷ more) (part ∷ parts) = IsPart bytes id_of over share part × AreParts bytes id_of over more parts

-- A batch that was read by the tables of a glance, with its files and totals.
pub record IsPrepared {M : Type 0} (bytes : M → Option (List ℕ)) (id_of : M → ℕ) (sight : Sight) (batch : List Placed) (p : Prepared M) : Type 0 where
  pub generation : p.generation ≡ sight.generation
  pub parts : AreParts bytes id_of (list_any is_over (shares sight batch)) (shares sight batch) p.parts.items

-- Why rows have no files: they are refused just so; or they make a batch, and a draft failed; or there was no memory.
abbrev pub IsUnprepared : Result (List Placed) BatchError → LoadError → Type 0
IsUnprepared batch (load.Batch refusal) = batch ≡ Err refusal
IsUnprepared batch load.Draft = IsOk batch
IsUnprepared batch load.Memory = ⊤

-- Rows were read by what a load sees: they make a batch, and these are its files; or there is a reason for which there are none.
abbrev pub HasPrepared : {M : Type 0} → (M → Option (List ℕ)) → (M → ℕ) → Sight → List RowWords → Result (Prepared M) LoadError → Type 0
HasPrepared bytes id_of sight rows (Ok p) = (batch : List Placed) × (batch_of (tables_of sight) rows ≡ Ok batch) × IsPrepared bytes id_of sight batch p
HasPrepared bytes id_of sight rows (Err e) = IsUnprepared (batch_of (tables_of sight) rows) e

-- the ids of files, in their order
abbrev pub made_ids : {M : Type 0} → (M → ℕ) → List (MadeFile M) → List ℕ
made_ids {M = M} id_of files = map (λ (f : MadeFile M). id_of f.made) files

abbrev pub view_ids : {M : Type 0} → (M → ℕ) → List (MadeView M) → List ℕ
view_ids {M = M} id_of views = map (λ (v : MadeView M). id_of v.file.made) views

-- of a part's files: the table's, and then its views'
abbrev pub files_ids : {M : Type 0} → (M → ℕ) → Option (MadeFiles M) → List ℕ
files_ids id_of None = []
files_ids id_of (Some made) = id_of made.file.made ∷ view_ids id_of made.views.items

-- of a batch's files, part by part
abbrev pub batch_ids : {M : Type 0} → (M → ℕ) → List (PreparedPart M) → List ℕ
batch_ids {M = M} id_of parts = flat_map (λ (part : PreparedPart M). files_ids id_of part.files) parts
