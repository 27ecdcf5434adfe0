-- A task whose files were merged: what is known of it is what was known before, and its delta is that of the files as they are now.
use Rattle.std.proofs.Common.{◌≡◌, ℕ, ◌+◌, ◌≤◌, List, refl, sym, ◌∙◌, subst, arith}
use Rattle.std.specs.Prelude.{Option, None, Result, Ok, Err, IfOk, IfErr, min}
use Rattle.mesa_core.specs.mesa_schema.Changes.{Lineage, columns_of}
use Rattle.mesa_delta.specs.declared.error.FileError.TheVariants as file
use Rattle.mesa_io.specs.Causes.{HasFaultCause, last}
use Rattle.mesa_file.specs.declared.damage.Damage.{Damage}
use Rattle.mesa_core.specs.mesa_merge.Faults.{faults_of}
use Rattle.mesa_open_files.specs.GivingBack.{task_inputs}
use Rattle.mesa_open_files.specs.Tasks.{IsMerged, IsTask}
use Rattle.mesa_open_files.specs.declared.merging.CompactError.{CompactError}
use Rattle.mesa_open_files.specs.declared.merging.CompactError.TheVariants as compact
use Rattle.mesa_open_files.specs.declared.merging.NewDelta.{NewDelta}
use Rattle.mesa_open_files.specs.declared.merging.Task.{Task}
use Rattle.mesa_compact.specs.Bounded.{AreBounded, IsBounded}
use Rattle.mesa_compact.specs.Tasks.{IsSameTask}
use Rattle.mesa_core.proofs.Known.{merge_stays}
use Rattle.mesa_compact.specs.Writing.{HasCauses, IsDraftFault, damaged_by}
use Rattle.mesa_open_files.specs.Errors.{Differs}
use Rattle.mesa_core.specs.Answers.{Owes}
use Rattle.mesa_core.specs.Drafts.{owed_by_work}
use Rattle.mesa_core.specs.Works.{IsDeltaOf, known_task}
use Rattle.mesa_query.proofs.Differing.{rose_failed}

-- ---- what is known

module _ {R : Type 0} (bytes : R → Option (List ℕ)) where
  pub known_stays : (old new : Task R) → IsSameTask bytes old new → known_task bytes new ≡ known_task bytes old
  known_stays old new same = λ j. record { table = same.table j; work = same.work j; lease = same.lease j; epoch = same.epoch j; files = same.inputs j; damage = same.damage j }

  -- ---- files of which the same is known

  pub merged_stays : {M : Type 0} (made_bytes : M → Option (List ℕ)) (id_of : M → ℕ) (l : Lineage) (old new : Task R) (delta : NewDelta M) → IsSameTask bytes old new → IsMerged made_bytes id_of bytes l old delta → IsMerged made_bytes id_of bytes l new delta
  merged_stays made_bytes id_of l old new delta same merged = record {
    rows = merged.rows;
    merge = merge_stays bytes (columns_of l) old.inputs.items new.inputs.items merged.rows same.inputs merged.merge;
    files = merged.files;
  }

  -- what is bounded still was before
  bounded_stays : (l : Lineage) (old new : Task R) → IsSameTask bytes old new → IsBounded bytes l new → IsBounded bytes l old
  bounded_stays l old new same bounded = subst (AreBounded (columns_of l)) same.inputs bounded

  -- what came of a merge
  pub closes : {M : Type 0} (made_bytes : M → Option (List ℕ)) (id_of : M → ℕ) (faults : R → ℕ) (l : Lineage) (old new : Task R) (before now : ℕ) (r : Result (NewDelta M) CompactError) (Met : Damage → Type 0) → ((d : Damage) → Met d → Differs d) → IsSameTask bytes old new → IsTask bytes l old → IfOk r (λ delta. (k : Lineage) → IsTask bytes k old → IsMerged made_bytes id_of bytes k old delta) → HasCauses before now (faults_of faults (task_inputs old)) (faults_of faults (task_inputs new)) Met r
      → IfErr r (λ e. (d : Damage) → e ≡ damaged_by d → old.damage ≡ None → (k : Lineage) → IsTask bytes k old → IsBounded bytes k old → ⊥) → IsDeltaOf made_bytes id_of bytes faults l new r
  closes made_bytes id_of faults l old new before now (Ok delta) Met differs same task merged causes accepts = merged_stays made_bytes id_of l old new delta same (merged l task)
  closes made_bytes id_of faults l old new before now (Err compact.Draft) Met differs same task merged causes accepts = tt
  closes made_bytes id_of faults l old new before now (Err (compact.File file.Read)) Met differs same task merged causes accepts = rose_failed faults _ (task_inputs new) (causes.reads.failed refl)
  closes made_bytes id_of faults l old new before now (Err (compact.File (file.Damaged d))) Met differs same task merged causes accepts = record {
    differs = differs d (causes.damaged d refl);
    never = λ none bounded. accepts d refl (sym same.damage ∙ none) l task (bounded_stays l old new same bounded);
  }
  closes made_bytes id_of faults l old new before now (Err (compact.File file.Memory)) Met differs same task merged causes accepts = tt

-- a bench counted the faults that a merge tells
pub merged_owes : {T : Type 0} (before now : ℕ) (r : Result T CompactError) → HasFaultCause IsDraftFault before now r → Owes before now (owed_by_work r)
merged_owes before now (Ok delta) cause low = let same : now ≡ before = cause.quiet in omega (arith, same)
merged_owes before now (Err compact.Draft) cause low = let rose : min (before + 1) last ≤ now = cause.failed refl in omega (arith, rose, low)
merged_owes before now (Err (compact.File e)) cause low = let later = cause.later in omega (arith, later)
