-- Tasks that come back as they were, with the files that were made.
use Rattle.std.specs.Prelude.{◌≡◌, ◌⊎◌, ℕ, ◌+◌, List, map, slice_get, Option, Some, None}
use Rattle.mesa_file.specs.declared.damage.Damage.{Damage}
use Rattle.mesa_delta.specs.declared.input.Input.{Input}
use Rattle.mesa_merge.specs.Inputs.{Known, knowns_of}
use Rattle.mesa_file.specs.Serials.{Drafts, after_drafts, drawn}
use Rattle.mesa_open_files.specs.declared.made.MadeFiles.{MadeFiles}
use Rattle.mesa_open_files.specs.declared.made.MadeView.{MadeView}
use Rattle.mesa_open_files.specs.declared.merging.Spare.{Spare}
use Rattle.mesa_open_files.specs.declared.merging.Task.{Task}
use Rattle.mesa_compact.specs.Damaged.{IsGroupsTotalOf, IsMergeDamage}

-- what is known of the readers of a further part
abbrev pub known_spare : {R : Type 0} → (R → Option (List ℕ)) → Spare R → List Known
known_spare bytes s = knowns_of bytes s.inputs.items

-- of those of all further parts
abbrev pub known_spares : {R : Type 0} → (R → Option (List ℕ)) → List (Spare R) → List (List Known)
known_spares bytes spares = map (known_spare bytes) spares

-- A task is the one that it was: the same work, and readers of the same files.
pub record IsSameTask {R : Type 0} (bytes : R → Option (List ℕ)) (old new : Task R) : Type 0 where
  pub table : new.table ≡ old.table
  pub work : new.work ≡ old.work
  pub lease : new.lease ≡ old.lease
  pub epoch : new.epoch ≡ old.epoch
  pub damage : new.damage ≡ old.damage
  pub inputs : knowns_of bytes new.inputs.items ≡ knowns_of bytes old.inputs.items
  pub spare : known_spares bytes new.spare.items ≡ known_spares bytes old.spare.items

-- The files of a merged range have the ids of the next drafts: the table's the first, and then the views' by their numbers.
pub record AreNumbered {M : Type 0} (id_of : M → ℕ) (d : Drafts) (made : MadeFiles M) : Type 0 where
  pub table : id_of made.file.made ≡ drawn d
  pub views : (i : ℕ) (m : MadeView M) → slice_get made.views.items i ≡ Some m → id_of m.file.made ≡ drawn (after_drafts (i + 1) d)

-- damage that is told where a table's inputs are merged into files, or where the groups of a view are written
abbrev pub IsFilesDamage : {R : Type 0} → (R → Option (List ℕ)) → (R → ℕ) → List (Input R) → Damage → Type 0
IsFilesDamage bytes size inputs d = IsMergeDamage bytes size inputs d ⊎ IsGroupsTotalOf (knowns_of bytes inputs) d

-- Which damage a task's merge tells, by the task before and after: the damage that was met when its files were opened, and only where there was none, one that was met in merging them.
abbrev pub IsTaskDamage : {R : Type 0} → (R → Option (List ℕ)) → (R → ℕ) → Task R → Task R → Damage → Type 0
IsTaskDamage bytes size old new d = (old.damage ≡ Some d) ⊎ ((old.damage ≡ None) × IsFilesDamage bytes size new.inputs.items d)
