-- Why files weren't read, as their reading tells it and as a closing turn asks for it: of a merge's files and of a recast's. Of a query's files mesa_query tells it.
use Rattle.std.proofs.Common.{◌≡◌, inl, inr, ℕ, List, sym, subst}
use Rattle.std.specs.Prelude.{Option, Some, IfSome}
use Rattle.mesa_file.specs.declared.damage.Damage.{Damage}
use Rattle.mesa_file.specs.declared.damage.Seen.TheVariants as seen
use Rattle.mesa_delta.specs.declared.input.Input.{Input}
use Rattle.mesa_open_files.specs.declared.merging.Task.{Task}
use Rattle.mesa_compact.specs.Damaged.{IsMergeDamage}
use Rattle.mesa_compact.specs.Regrouped.{IsRegroupDamage}
use Rattle.mesa_compact.specs.Tasks.{IsFilesDamage, IsTaskDamage}
use Rattle.mesa_split.specs.Split.{IsSplitDamage}
use Rattle.mesa_open_files.specs.Errors.{Differs}
use Rattle.mesa_open_files.specs.Recasts.{own, recast_in, recast_table}
use Rattle.mesa_open_files.specs.declared.recasting.Recast.{Recast}
use Rattle.mesa_copy.specs.Copying.{IsRecastDamage}
use Rattle.mesa_core.specs.mesa_schema.Changes.{columns_of}
use Rattle.mesa_core.specs.mesa_columns.Columns.{Columns}
use Rattle.mesa_core.specs.mesa_schema.Recasts.{recast_keys, recast_values}
use Rattle.mesa_query.proofs.Differing.{damaged_differs}

unlike_fits : (n : ℕ) → seen.Fits ≡ seen.Misfit n → ⊥
unlike_fits n same = cc

told_as : (d told : Damage) → d ≡ told → Differs told → Differs d
told_as d told is differs = subst Differs (sym is) differs

-- ---- damage of a merge

merge_differs : {R : Type 0} (bytes : R → Option (List ℕ)) (size : R → ℕ) (inputs : List (Input R)) (d : Damage) → IsMergeDamage bytes size inputs d → Differs d
merge_differs bytes size inputs d (inl (inl block)) = elim block.damaged [ inl damaged ↦ damaged_differs bytes size block.input d damaged | inr fall ↦ told_as d _ fall.falls.told (λ same. unlike_fits 0 same) ]
merge_differs bytes size inputs d (inl (inr sum)) = told_as d _ sum.told (λ same. unlike_fits 0 same)
merge_differs bytes size inputs d (inr total) = told_as d _ total.told (λ same. unlike_fits 0 same)

some_differs : (o : Option Damage) (d : Damage) → IfSome o Differs → o ≡ Some d → Differs d
some_differs o d met is = subst (λ (p : Option Damage). IfSome p Differs) is met

-- damage that is met in merging a task's files
files_differs : {R : Type 0} (bytes : R → Option (List ℕ)) (size : R → ℕ) (t : Task R) (d : Damage) → IsFilesDamage bytes size t.inputs.items d → Differs d
files_differs bytes size t d (inl files) = merge_differs bytes size t.inputs.items d files
files_differs bytes size t d (inr total) = told_as d _ total.told (λ same. unlike_fits 0 same)

-- what is told of a task's files differs from what was wanted
pub task_differs : {R : Type 0} (bytes : R → Option (List ℕ)) (size : R → ℕ) (old new : Task R) (d : Damage) → IfSome old.damage Differs → IsTaskDamage bytes size old new d → Differs d
task_differs bytes size old new d met (inl is) = some_differs old.damage d met is
task_differs bytes size old new d met (inr (none, files)) = files_differs bytes size new d files

-- and so does what is told of a task that is merged in parts
pub split_differs : {R : Type 0} (bytes : R → Option (List ℕ)) (size : R → ℕ) (old new : Task R) (d : Damage) → IfSome old.damage Differs → IsSplitDamage bytes size old new d → Differs d
split_differs bytes size old new d met (inl is) = some_differs old.damage d met is
split_differs bytes size old new d met (inr (none, inl files)) = files_differs bytes size new d files
split_differs bytes size old new d met (inr (none, inr spare)) = merge_differs bytes size spare.spare.inputs.items d spare.told

-- ---- damage of a recast

range_differs : {R : Type 0} (bytes : R → Option (List ℕ)) (size : R → ℕ) (s : Columns) (columns values : List ℕ) (inputs : List (Input R)) (d : Damage) → IsRegroupDamage bytes size s columns values inputs d → Differs d
range_differs bytes size s columns values inputs d (inl files) = merge_differs bytes size inputs d files
range_differs bytes size s columns values inputs d (inr total) = told_as d _ total.told (λ same. unlike_fits 0 same)

-- what is told of a recast's files differs from what was wanted
pub recast_differs : {R : Type 0} (bytes : R → Option (List ℕ)) (size : R → ℕ) (old new : Recast R) (d : Damage) → IfSome old.damage Differs → IsRecastDamage bytes size old new d → Differs d
recast_differs bytes size old new d met (inl is) = some_differs old.damage d met is
recast_differs bytes size old new d met (inr (none, ranges)) =
    let s = columns_of (recast_table old) in
    range_differs bytes size s (recast_keys s (recast_in old)) (recast_values s (recast_in old)) (own ranges.range) d ranges.told
