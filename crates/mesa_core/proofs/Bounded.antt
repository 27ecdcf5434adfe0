-- The sums over a task's files, by what is known of it.
use Rattle.std.proofs.Common.{◌≡◌, ◌∙◌, ℕ, List, [], ◌∷◌, refl, sym, subst, arith, Option}
use Rattle.std.specs.List.{AllByRecursion}
use Rattle.mesa_recast_turns.specs.mesa_schema.Changes.{Lineage, columns_of}
use Rattle.mesa_recast_turns.specs.mesa_compact.Bounded.{AreBounded, IsBounded}
use Rattle.mesa_delta.specs.declared.input.Input.{Input}
use Rattle.mesa_recast_turns.specs.mesa_merge.Inputs.{Known, knowns_of}
use Rattle.mesa_core.specs.Works.{known_task}
use Rattle.mesa_open_files.specs.Inputs.{AreInputsOf}
use Rattle.mesa_open_files.specs.Tasks.{IsTask}
use Rattle.mesa_open_files.specs.declared.merging.Task.{Task}
use Rattle.mesa_core.specs.Known.{IsKnownOf}

module _ {R : Type 0} (bytes : R → Option (List ℕ)) where
  module _ (was l : Lineage) (t : Task R) (known : IsKnownOf was (known_task bytes t)) (task : IsTask bytes l t) (bounded : AreBounded (columns_of was) (known_task bytes t).files) where
    by : (inputs : List (Input R)) → t.inputs.items ≡ inputs → AreBounded (columns_of l) (knowns_of bytes t.inputs.items)
    by [] is = subst (λ xs. AreBounded (columns_of l) (knowns_of bytes xs)) (sym is) (record { contents = []; told = tt; bound = λ c sum. omega arith })
    by (i ∷ inputs) is =
        let mine = subst (AreInputsOf bytes l) is task.inputs in
        let its = subst (λ xs. AllByRecursion (λ (f : Known). f.table ≡ was) (knowns_of bytes xs)) is known.files in
        let same : was ≡ l = sym its.0 ∙ mine.0.1 in
        subst (λ (x : Lineage). AreBounded (columns_of x) (knowns_of bytes t.inputs.items)) same bounded

    -- They stay in their type, whatever columns it is merged by.
    pub task_bounded : IsBounded bytes l t
    task_bounded = by t.inputs.items refl
