-- Tasks that are merged in parts.
use Rattle.std.specs.Prelude.{◌≡◌, ◌⊎◌, ℕ, List, [], ◌∷◌, slice_get, IfErr, IfOk, IfSome, Option, Some, None, Result, Ok, Err, ⊤}
use Rattle.std.specs.List.{AllByRecursion}
use Rattle.mesa_file.specs.declared.damage.Damage.{Damage}
use Rattle.mesa_compact.specs.mesa_columns.declared.rows.Row.{Row}
use Rattle.mesa_delta.specs.declared.error.FileError.{FileError}
use Rattle.mesa_delta.specs.declared.error.FileError.TheVariants.{Read}
use Rattle.mesa_schema.specs.Changes.{Lineage}
use Rattle.mesa_merge.specs.Faults.{faults_of}
use Rattle.mesa_open_files.specs.GivingBack.{task_inputs}
use Rattle.mesa_file.specs.Serials.{Drafts, after_drafts}
use Rattle.mesa_open_files.specs.Spares.{IsSpareOf}
use Rattle.mesa_open_files.specs.Tasks.{IsMerged, IsTask}
use Rattle.mesa_open_files.specs.declared.merging.CompactError.{CompactError}
use Rattle.mesa_compact.specs.Bounded.{IsBounded}
use Rattle.mesa_open_files.specs.declared.made.MadeFiles.{MadeFiles}
use Rattle.mesa_open_files.specs.declared.merging.Spare.{Spare}
use Rattle.mesa_open_files.specs.declared.merging.Task.{Task}
use Rattle.mesa_compact.specs.Damaged.{IsMergeDamage}
use Rattle.mesa_compact.specs.Tasks.{AreNumbered, IsFilesDamage, IsSameTask}
use Rattle.mesa_compact.specs.Writing.{HasCauses, damaged_by}

abbrev pub IsGained : Result (List Row) FileError → Type 0
IsGained (Ok rows) = ⊤
IsGained (Err e) = ⊥

-- a part did not fail by this error
abbrev pub IsNotBy : FileError → Result (List Row) FileError → Type 0
IsNotBy e answer = answer ≡ Err e → ⊥

-- a part failed by this error
abbrev pub IsSomeBy : FileError → List (Result (List Row) FileError) → Type 0
IsSomeBy e [] = ⊥
IsSomeBy e (answer ∷ answers) = (answer ≡ Err e) ⊎ IsSomeBy e answers

-- Why parts have no rows: one failed by this error, and where it isn't a failed read, no read failed. None where each has its rows.
abbrev pub IsFailureOf : List (Result (List Row) FileError) → Option FileError → Type 0
IsFailureOf answers None = AllByRecursion IsGained answers
IsFailureOf answers (Some e) = IsSomeBy e answers × ((e ≡ Read) ⊎ AllByRecursion (IsNotBy Read) answers)

-- damage of the inputs of one of a task's spares
pub record IsSpareDamage {R : Type 0} (bytes : R → Option (List ℕ)) (size : R → ℕ) (spares : List (Spare R)) (d : Damage) : Type 0 where
  pub at : ℕ
  pub spare : Spare R
  pub one : slice_get spares at ≡ Some spare
  pub told : IsMergeDamage bytes size spare.inputs.items d

-- damage that is met where a task is merged in parts: of the task's own inputs or of a spare's. A total over rows of several parts is told of the newest of the task's own inputs.
abbrev pub IsPartsDamage : {R : Type 0} → (R → Option (List ℕ)) → (R → ℕ) → Task R → Damage → Type 0
IsPartsDamage bytes size t d = IsFilesDamage bytes size t.inputs.items d ⊎ IsSpareDamage bytes size t.spare.items d

-- Which damage is told where a task is merged in parts, by the task before and after: the damage that was met when its files were opened, and only where there was none, one that was met in merging them.
abbrev pub IsSplitDamage : {R : Type 0} → (R → Option (List ℕ)) → (R → ℕ) → Task R → Task R → Damage → Type 0
IsSplitDamage bytes size old new d = (old.damage ≡ Some d) ⊎ ((old.damage ≡ None) × IsPartsDamage bytes size new d)

-- What came of merging a task in parts, whose files are all open: its files, or none where it has no rows; by the bench's counts of faults before and now, and the drafts that were drawn.
pub record HasSplit {M R : Type 0} (told : M → Option (List ℕ)) (id_of : M → ℕ) (bytes : R → Option (List ℕ)) (faults size : R → ℕ) (before now : ℕ) (old new : Task R) (drafts after : Drafts) (answer : Result (Option (MadeFiles M)) CompactError) : Type 0 where
  pub merged : IfOk answer (λ files. (l : Lineage) → IsTask bytes l old → IsMerged told id_of bytes l old (record { files = files }))
  pub numbered : IfOk answer (λ files. IfSome files (AreNumbered id_of drafts))
  pub ids : (n : ℕ) × (after ≡ after_drafts n drafts)
  pub causes : HasCauses before now (faults_of faults (task_inputs old)) (faults_of faults (task_inputs new)) (IsPartsDamage bytes size new) answer
  pub accepts : IfErr answer (λ e. (d : Damage) → e ≡ damaged_by d → (l : Lineage) → IsTask bytes l old → IsBounded bytes l old → ⊥)
  -- The task stays what it was.
  pub same : IsSameTask bytes old new
  pub kept : (l : Lineage) → IsTask bytes l old → IsTask bytes l new
  pub spares : AllByRecursion (IsSpareOf bytes new) new.spare.items
