-- Files that are written side by side.
use Rattle.std.specs.Prelude.{◌≡◌, ◌<◌, ℕ, List, [], ◌∷◌, length, slice_index_or, Option, None, Some, IfSome, ⊤}
use Rattle.mesa_open_files.specs.mesa_io.Causes.{Rose}
use Rattle.mesa_open_files.specs.mesa_columns.declared.rows.Row.{Row}
use Rattle.mesa_open_files.specs.mesa_columns.declared.views.View.{View}
use Rattle.mesa_schema.specs.Changes.{Lineage, columns_of}
use Rattle.mesa_batch.specs.Gathered.{rows_at}
use Rattle.mesa_delta.specs.declared.error.WriteError.{WriteError}
use Rattle.mesa_delta.specs.declared.error.WriteError.TheVariants as write
use Rattle.mesa_open_files.specs.Made.{Content, IsMadeFile, content_of}
use Rattle.mesa_load.specs.Filing.{AreFileRows}
use Rattle.mesa_load.specs.declared.building.FileToWrite.{FileToWrite}
use Rattle.mesa_load.specs.declared.building.WriteState.{WriteState}
use Rattle.mesa_load.specs.declared.building.WriteState.TheVariants as progress

abbrev pub ProgressOf : Type 0 → Type 0 → Type 0
ProgressOf M T = WriteState M T

-- the view of a number
abbrev pub view_in : Lineage → ℕ → View
view_in l view = slice_index_or l.views view (record { name = []; keys = []; values = [] })

-- a table's rows, or those of a view over them
abbrev pub content_at : Lineage → List Row → Option ℕ → Content
content_at l rows None = record { columns = columns_of l; rows = rows }
content_at l rows (Some view) = content_of (columns_of l) rows (view_in l view)

-- whose rows a job's file is to have
abbrev pub content_in : FileToWrite → Content
content_in j = content_at j.evolving.now (rows_at j.table j.batch.now) j.view

-- A job's view is there, its table has rows, and a file may have them.
pub record IsFit (j : FileToWrite) : Type 0 where
  pub view : IfSome j.view (λ view. view < length j.evolving.now.views)
  pub some : 0 < length (rows_at j.table j.batch.now)
  pub rows : AreFileRows (columns_of j.evolving.now) (rows_at j.table j.batch.now)

-- A job may be done: its draft is empty and has its id.
abbrev pub IsReady : {M T : Type 0} → (T → Option (List ℕ)) → (T → ℕ) → FileToWrite → WriteState M T → Type 0
IsReady bytes id_of job (progress.Begun id draft) = ((b : List ℕ) → bytes draft ≡ Some b → b ≡ []) × (id_of draft ≡ id) × IsFit job
IsReady bytes id_of job (progress.Finished file) = ⊥
IsReady bytes id_of job (progress.Failed error draft) = ⊥
IsReady bytes id_of job progress.Lent = ⊥

-- Why a file isn't written: its draft failed and has counted it, or memory was wanting and the draft has counted nothing.
abbrev pub IsCause : ℕ → ℕ → WriteError → Type 0
IsCause before now write.Draft = Rose before now
IsCause before now write.Memory = now ≡ before

-- what is made of a draft: the file of this content, with the draft's id, or the draft, with the cause
abbrev pub HasWritten : {M T : Type 0} → (M → Option (List ℕ)) → (M → ℕ) → (T → ℕ) → Content → ℕ → T → WriteState M T → Type 0
HasWritten bytes id_of faults content id draft (progress.Finished file) = IsMadeFile bytes id_of content file × (id_of file.made ≡ id)
HasWritten bytes id_of faults content id draft (progress.Failed error left) = IsCause (faults draft) (faults left) error
HasWritten bytes id_of faults content id draft (progress.Begun other left) = ⊥
HasWritten bytes id_of faults content id draft progress.Lent = ⊥

-- what is made of a job
abbrev pub HasFiled : {M T : Type 0} → (M → Option (List ℕ)) → (M → ℕ) → (T → ℕ) → FileToWrite → WriteState M T → WriteState M T → Type 0
HasFiled bytes id_of faults job (progress.Begun id draft) after = HasWritten bytes id_of faults (content_in job) id draft after
HasFiled bytes id_of faults job (progress.Finished file) after = ⊥
HasFiled bytes id_of faults job (progress.Failed error draft) after = ⊥
HasFiled bytes id_of faults job progress.Lent after = ⊥

-- what a draft whose file isn't written has counted
abbrev pub IsCounted : WriteError → ℕ → Type 0
IsCounted write.Draft count = 0 < count
IsCounted write.Memory count = count ≡ 0

-- What became of a job: its file, or a draft that has counted its fault, if it met one.
abbrev pub IsDone : {M T : Type 0} → (M → Option (List ℕ)) → (M → ℕ) → (T → ℕ) → FileToWrite → WriteState M T → Type 0
IsDone bytes id_of faults job (progress.Finished file) = IsMadeFile bytes id_of (content_in job) file
IsDone bytes id_of faults job (progress.Failed error left) = IsCounted error (faults left)
IsDone bytes id_of faults job (progress.Begun id draft) = ⊥
IsDone bytes id_of faults job progress.Lent = ⊥

-- each of the jobs
abbrev pub AreDone : {M T : Type 0} → (M → Option (List ℕ)) → (M → ℕ) → (T → ℕ) → List FileToWrite → List (WriteState M T) → Type 0
AreDone bytes id_of faults [] [] = ⊤
AreDone bytes id_of faults [] (p ∷ ps) = ⊥
AreDone bytes id_of faults (j ∷ js) [] = ⊥
AreDone bytes id_of faults (j ∷ js) (p ∷ ps) = IsDone bytes id_of faults j p × AreDone bytes id_of faults js ps

-- A draft's id is this one, and so is its file's.
abbrev pub HasId : {M T : Type 0} → (M → ℕ) → ℕ → WriteState M T → Type 0
HasId id_of id (progress.Begun own draft) = own ≡ id
HasId id_of id (progress.Finished file) = id_of file.made ≡ id
HasId id_of id (progress.Failed error draft) = ⊤
HasId id_of id progress.Lent = ⊤

-- each of the drafts, and their files, in their order
abbrev pub HaveIds : {M T : Type 0} → (M → ℕ) → List ℕ → List (WriteState M T) → Type 0
HaveIds id_of [] [] = ⊤
HaveIds id_of [] (p ∷ ps) = ⊥
HaveIds id_of (id ∷ ids) [] = ⊥
HaveIds id_of (id ∷ ids) (p ∷ ps) = HasId id_of id p × HaveIds id_of ids ps
