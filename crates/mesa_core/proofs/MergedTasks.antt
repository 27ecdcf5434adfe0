-- What a task was merged to.
use Rattle.std.proofs.Common.{◌≡◌, ◌∙◌, ℕ, List, [], ◌∷◌, length, refl, sym, ap, subst, arith, Option, None, Some}
use Rattle.std.specs.List.{AllByRecursion}
use Rattle.mesa_recast_turns.specs.mesa_columns.declared.rows.Row.{Row}
use Rattle.mesa_recast_turns.specs.mesa_schema.Changes.{Lineage, columns_of}
use Rattle.mesa_recast_turns.specs.mesa_columns.Columns.{Columns}
use Rattle.mesa_delta.specs.declared.input.Input.{Input}
use Rattle.mesa_recast_turns.specs.mesa_merge.Inputs.{Known, knowns_of}
use Rattle.mesa_core.specs.Works.{known_task}
use Rattle.mesa_open_files.specs.Inputs.{AreInputsOf, IsMergeOf}
use Rattle.mesa_open_files.specs.Tasks.{HaveMerged, IsMerged, IsTask}
use Rattle.mesa_open_files.specs.declared.made.MadeFiles.{MadeFiles}
use Rattle.mesa_open_files.specs.declared.merging.NewDelta.{NewDelta}
use Rattle.mesa_open_files.specs.declared.merging.Task.{Task}
use Rattle.mesa_core.specs.Known.{IsKnownOf}

module _ {R : Type 0} (bytes : R → Option (List ℕ)) where
  -- ---- what is known of a grant

  tables_known : (was : Lineage) (inputs : List (Input R)) → AreInputsOf bytes was inputs → AllByRecursion (λ (f : Known). f.table ≡ was) (knowns_of bytes inputs)
  tables_known was [] are = tt
  tables_known was (i ∷ inputs) are = (are.0.1, tables_known was inputs are.1)

  pub grant_known : (was : Lineage) (t : Task R) → IsTask bytes was t → IsKnownOf was (known_task bytes t)
  grant_known was t task = record { epoch = task.epoch; files = tables_known was t.inputs.items task.inputs }

  -- ---- a task without files

  module _ {M : Type 0} (made_bytes : M → Option (List ℕ)) (id_of : M → ℕ) (was l : Lineage) (t : Task R) (d : NewDelta M) (known : IsKnownOf was (known_task bytes t)) (task : IsTask bytes l t) (merged : IsMerged made_bytes id_of bytes l t d) where
    none_merged : (rows : List Row) → rows ≡ [] → (files : Option (MadeFiles M)) → HaveMerged made_bytes id_of l rows files → HaveMerged made_bytes id_of was rows files
    none_merged rows none None have = none
    none_merged rows none (Some made) have = absurd (let some = have.table.rows.some in let zero = ap length none in omega (arith, some, zero))

    no_parts : (s : Columns) (rows : List Row) → rows ≡ [] → IsMergeOf bytes s [] rows
    no_parts s rows none [] told = none
    no_parts s rows none (part ∷ parts) told = absurd told

    by : (inputs : List (Input R)) → t.inputs.items ≡ inputs → IsTask bytes was t × IsMerged made_bytes id_of bytes was t d
    by [] is =
        let none : merged.rows ≡ [] = subst (λ xs. IsMergeOf bytes (columns_of l) xs merged.rows) is merged.merge [] tt in (
          record {
            epoch = known.epoch;
            inputs = subst (AreInputsOf bytes was) (sym is) tt;
          },
          record {
            rows = merged.rows;
            merge = subst (λ xs. IsMergeOf bytes (columns_of was) xs merged.rows) (sym is) (no_parts (columns_of was) merged.rows none);
            files = none_merged merged.rows none d.files merged.files;
          },
        )
    by (i ∷ inputs) is =
        let mine = subst (AreInputsOf bytes l) is task.inputs in
        let its = subst (λ xs. AllByRecursion (λ (f : Known). f.table ≡ was) (knowns_of bytes xs)) is known.files in
        let same : l ≡ was = sym mine.0.1 ∙ its.0 in
        (subst (λ x. IsTask bytes x t) same task, subst (λ x. IsMerged made_bytes id_of bytes x t d) same merged)

    pub merge_known : IsTask bytes was t × IsMerged made_bytes id_of bytes was t d
    merge_known = by t.inputs.items refl
