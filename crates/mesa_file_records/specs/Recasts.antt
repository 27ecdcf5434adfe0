-- What is told of a recast's record.
use Rattle.std.specs.Prelude.{◌≡◌, ◌⊎◌, ℕ, ◌+◌, ◌<◌, ◌≤◌, List, [], ◌∷◌, flat_map, map, length, true, Option, None, Some, ⊤}
use Rattle.std.specs.List.{AllByRecursion}
use Rattle.mesa_columns.specs.declared.rows.Row.{Row}
use Rattle.mesa_pick_files.specs.mesa_schema.Changes.{Lineage, columns_of, epoch_of}
use Rattle.mesa_disk.specs.Files.{HasDistinctIds, files_of}
use Rattle.mesa_engine.specs.mesa_commit.Turn.{made_ids, told_files}
use Rattle.mesa_file.specs.declared.file_ref.FileRef.{FileRef}
use Rattle.mesa_record.specs.Rules.{keeps_rules}
use Rattle.mesa_record.specs.declared.record.Files.{Files}
use Rattle.mesa_record.specs.declared.record.Record.TheVariants as record_of
use Rattle.mesa_record.specs.declared.checkpoint.CheckpointSingle.{CheckpointSingle}
use Rattle.mesa_record.specs.declared.recasting.RecastBase.{RecastBase}
use Rattle.mesa_engine.specs.mesa_store_spec.Catalog.{Ending, TableMeta, meta_at}
use Rattle.mesa_engine.specs.mesa_store_spec.Contents.{Rows}
use Rattle.mesa_engine.specs.mesa_store_spec.Fitting.{brought, fits}
use Rattle.mesa_engine.specs.mesa_store_spec.Sound.{wants}
use Rattle.mesa_engine.specs.mesa_store_spec.Brought.{AreTold}
use Rattle.mesa_engine.specs.mesa_store_spec.Ids.{brought_ids}
use Rattle.mesa_engine.specs.mesa_store_spec.Rewritten.{Covers, IsRewritten, Rewritten, recasting_of}
use Rattle.mesa_engine.specs.EngineState.{EngineState, next_id}
use Rattle.mesa_engine.specs.Recorded.{Adopts}
use Rattle.mesa_engine.specs.mesa_history_spec.Sources.{Source, Written, range_rows, sources_from}
use Rattle.mesa_open_files.specs.Inputs.{IsMergeOf}
use Rattle.mesa_open_files.specs.Recasts.{own, recast_in, recast_table}
use Rattle.mesa_open_files.specs.declared.made.MadeFile.{MadeFile}
use Rattle.mesa_open_files.specs.declared.recasting.Recast.{Recast}
use Rattle.mesa_open_files.specs.declared.recasting.RecastRange.{RecastRange}
use Rattle.mesa_open_files.specs.declared.recasting.RecastedRange.{RecastedRange}
use Rattle.mesa_catalog_table.specs.declared.table.Loaded.{Loaded}
use Rattle.mesa_pick_files.specs.Ranges.{ranged}
use Rattle.mesa_file_records.specs.Adopted.{ref_under}
use Rattle.mesa_file_records.specs.Published.{AllTell, rows_with}
use Rattle.mesa_file_records.specs.declared.swapping.Swapped.{Swapped}

-- ---- what a recast's ranges have

-- what was written of the table in a range
abbrev pub sources_at : {R : Type 0} → RecastRange R → List Written → List Source
sources_at x written = sources_from x.from x.to written

-- A range has its rows: all that was written in it is of the table's epoch or an earlier one, and its input merges to nothing but the rows to which that folds.
pub record HasItsRange {R : Type 0} (read : R → Option (List ℕ)) (l : Lineage) (written : List Written) (x : RecastRange R) : Type 0 where
  pub epochs : AllByRecursion (λ (s : Source). s.epoch ≤ epoch_of l) (sources_at x written)
  pub rows : (rows : List Row) → IsMergeOf read (columns_of l) (own x) rows → rows ≡ range_rows l (epoch_of l) (sources_at x written)

-- So it is for each range of a recast.
abbrev pub HasItsRanges : {R : Type 0} → (R → Option (List ℕ)) → Recast R → List Written → Type 0
HasItsRanges read t written = AllByRecursion (HasItsRange read (recast_table t) written) t.ranges.items

-- ---- what is rewritten

-- a rewritten range is among these, with a file
abbrev pub HasFile : {M : Type 0} → List (RecastedRange M) → ℕ → ℕ → Type 0
HasFile [] from to = ⊥
HasFile {M = M} (y ∷ ys) from to = ((y.from ≡ from) × (y.to ≡ to) × (f : MadeFile M) × (y.file ≡ Some f)) ⊎ HasFile ys from to

-- where a delta has files
abbrev pub HasFileAt : {M : Type 0} → List (RecastedRange M) → ℕ → ℕ → Option Files → Type 0
HasFileAt made from to None = ⊤
HasFileAt made from to (Some f) = HasFile made from to

-- Each range with rows that a table has is among these, with a file.
abbrev pub HasFiles : {M : Type 0} → List (RecastedRange M) → TableMeta → Type 0
HasFiles made t = AllByRecursion (λ x. HasFileAt made x.from x.to x.delta.files) (ranged t)

-- one of these
abbrev pub IsMade : {M : Type 0} → RecastedRange M → List (RecastedRange M) → Type 0
IsMade y [] = ⊥
IsMade y (z ∷ zs) = (y ≡ z) ⊎ IsMade y zs

-- a range, and the file that it has
pub record Took (M : Type 0) : Type 0 where
  pub range : RecastedRange M
  pub file : MadeFile M

-- the files of such ranges
abbrev pub files_taken : {M : Type 0} → List (Took M) → List (MadeFile M)
files_taken taken = map (λ k. k.file) taken

-- A range is taken out of these, with its file: no other comes, and those of other versions that have a file stay.
pub record IsTaken {M : Type 0} (old : List (RecastedRange M)) (k : Took M) (new : List (RecastedRange M)) : Type 0 where
  pub has : k.range.file ≡ Some k.file
  pub one : IsMade k.range old
  pub fewer : length new < length old
  pub rest : (z : RecastedRange M) → IsMade z new → IsMade z old
  pub others : (from to : ℕ) → ((from ≡ k.range.from) → (to ≡ k.range.to) → ⊥) → HasFile old from to → HasFile new from to

-- So are several, one after the other.
abbrev pub AreTaken : {M : Type 0} → List (RecastedRange M) → List (Took M) → List (RecastedRange M) → Type 0
AreTaken old [] new = old ≡ new
AreTaken {M = M} old (k ∷ ks) new = (then : List (RecastedRange M)) × IsTaken old k then × AreTaken then ks new

-- ---- the references

-- ranges that were rewritten, whose files get ids from one on
abbrev pub rewritten_under : {M : Type 0} → ℕ → List (Took M) → List Rewritten
rewritten_under id [] = []
rewritten_under id (k ∷ ks) = record { from = k.range.from; to = k.range.to; file = Some (ref_under id k.file); totals = k.range.totals } ∷ rewritten_under (id + 1) ks

-- files with this one in the place of the table's: the view files stay
abbrev pub with_file : Files → FileRef → Files
with_file f file = record { file = file; views = f.views }

-- A base is rewritten: where it has rows, what is told of it has the rewritten file of its versions, and the view files that it had.
abbrev pub IsEndingRewritten : ℕ → Option Files → List Rewritten → Option RecastBase → Type 0
IsEndingRewritten to None [] b = b ≡ Some (record { to = to; files = None })
IsEndingRewritten to None (x ∷ xs) b = ⊥
IsEndingRewritten to (Some f) [] b = ⊥
IsEndingRewritten to (Some f) (x ∷ xs) b = (xs ≡ []) × (file : FileRef) × (x.file ≡ Some file) × (x.from ≡ 0) × (x.to ≡ to) × (b ≡ Some (record { to = to; files = Some (with_file f file) }))

abbrev pub IsBaseRewritten : Option Ending → List Rewritten → Option RecastBase → Type 0
IsBaseRewritten None [] b = b ≡ None
IsBaseRewritten None (x ∷ xs) b = ⊥
IsBaseRewritten (Some e) made b = IsEndingRewritten e.to e.delta.files made b

-- A singleton is rewritten: what is told of it has the rewritten file of its version, and the view files that it had.
pub record IsSingleRewritten (epoch version : ℕ) (f : Files) (x : Rewritten) (s : CheckpointSingle) : Type 0 where
  pub file : FileRef
  pub has : x.file ≡ Some file
  pub from : x.from ≡ version
  pub to : x.to ≡ version
  pub told : s ≡ record { version = version; epoch = epoch; files = with_file f file; totals = x.totals }

-- each version with rows, with its files
abbrev pub single_in : ℕ → Option Files → List (ℕ × Files)
single_in version None = []
single_in version (Some f) = (version, f) ∷ []

abbrev pub singles_in : List Loaded → List (ℕ × Files)
singles_in loaded = flat_map (λ (l : Loaded). single_in l.version l.delta.value.files) loaded

-- Singletons are rewritten, one by one.
abbrev pub AreSinglesRewritten : ℕ → List (ℕ × Files) → List Rewritten → List CheckpointSingle → Type 0
AreSinglesRewritten epoch [] [] [] = ⊤
AreSinglesRewritten epoch [] [] (s ∷ ss) = ⊥
AreSinglesRewritten epoch [] (x ∷ xs) ss = ⊥
AreSinglesRewritten epoch (f ∷ fs) [] ss = ⊥
AreSinglesRewritten epoch (f ∷ fs) (x ∷ xs) [] = ⊥
AreSinglesRewritten epoch (f ∷ fs) (x ∷ xs) (s ∷ ss) = IsSingleRewritten epoch f.0 f.1 x s × AreSinglesRewritten epoch fs xs ss

-- ---- the record

-- the table of a recast
abbrev pub meta_of_recast : {R : Type 0} → EngineState → Recast R → TableMeta
meta_of_recast l t = meta_at l.catalogue t.table

-- A table is recast by a record that keeps the rules of records and fits: each of its ranges with rows is rewritten; its files have true references, are those that are made, each with its bytes where they are told, and get the next ids; and where the task has its ranges, each file has the rows of its range, grouped by the new columns.
pub record IsRecastIn {M R : Type 0} (bytes : M → Option (List ℕ)) (read : R → Option (List ℕ)) (l : EngineState) (t : Recast R) (s : Swapped M) : Type 0 where
  pub made : List Rewritten
  pub entry : s.entry ≡ record_of.Recast (recasting_of t.table (meta_of_recast l t) (recast_in t) made)
  pub rules : keeps_rules s.entry ≡ true
  pub fitting : fits l.catalogue s.entry ≡ true
  pub covers : Covers made (meta_of_recast l t)
  pub more : List (List Row)
  pub told : (rows : Rows) → AreTold (rows_with rows (next_id l) more) l.catalogue s.entry
  pub rewritten : (rows : Rows) (written : List Written) → HasItsRanges read t written → AllByRecursion (IsRewritten (rows_with rows (next_id l) more) (meta_of_recast l t).lineage (recast_in t) written) made
  pub agree : (rows : Rows) (id : ℕ) → id < next_id l → rows_with rows (next_id l) more id ≡ rows id
  pub files : (rows : Rows) → AllTell bytes s.made.items → files_of bytes s.made.items ≡ told_files (wants (rows_with rows (next_id l) more) (brought l.catalogue s.entry))
  pub ids : made_ids (files_of bytes s.made.items) ≡ brought_ids l.catalogue s.entry
  pub distinct : HasDistinctIds (files_of bytes s.made.items)
  pub adopts : Adopts l (files_of bytes s.made.items) s.adopted
