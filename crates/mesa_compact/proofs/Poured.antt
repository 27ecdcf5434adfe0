-- Rows poured from a merge.
use Rattle.std.proofs.Common.{◌≡◌, ℕ, List, [], ◌∷◌, ◌++◌, refl, sym, subst, get_or, true, false}
use Rattle.std.specs.Prelude.{Bool, Ok, Option, Some, None, IfNone}
use Rattle.mesa_open_files.specs.mesa_columns.declared.rows.Row.{Row}
use Rattle.mesa_open_files.specs.mesa_columns.Columns.{Columns, aggs_of}
use Rattle.mesa_open_files.specs.mesa_fold.Folded.{folded}
use Rattle.mesa_open_files.specs.mesa_columns.Rows.{AreRowsOf, IsRowOf}
use Rattle.mesa_merge.specs.Calls.{IsNextOf, answer_of}
use Rattle.mesa_merge.specs.Merged.{HasMerged, last_in, row_in}
use Rattle.mesa_merge.specs.Sums.{IsLastOf}
use Rattle.mesa_merge.specs.declared.merge.Merge.{Merge}

pub if_none_from : {X : Type 0} (o : Option X) (P : Type 0) → P → IfNone o P
if_none_from None P p = p
if_none_from (Some x) P p = tt

-- what inputs of a merge have given has the form
pub merged_formed : {R : Type 0} (bytes : R → Option (List ℕ)) (s : Columns) (m : Merge R) (givens : List (List Row)) → HasMerged bytes s m givens → (j : ℕ) → AreRowsOf s (get_or givens j [])
merged_formed bytes s m givens h j = elim (m.begun) as (λ b. m.begun ≡ b → AreRowsOf s (get_or givens j [])) [
  | true ↦ λ e. (h.merging e).formed j
  | false ↦ λ e. subst (AreRowsOf s) (sym (h.fresh e j)) tt
] refl

-- What a merge has given folds to this row more, whose key one of its inputs is the newest to have given.
abbrev GoesOn : {R : Type 0} → (R → Option (List ℕ)) → Merge R → Merge R → Row → Type 0
GoesOn bytes old new row = (s : Columns) (givens : List (List Row)) → HasMerged bytes s old givens
    → (after : List (List Row)) × HasMerged bytes s new after × (folded (aggs_of s) after ≡ folded (aggs_of s) givens ++ row ∷ []) × IsRowOf s row × IsLastOf row.key (last_in new) after

-- it does so by the row that it then lends
pub goes_on : {R : Type 0} (bytes : R → Option (List ℕ)) (faults size : R → ℕ) (old new : Merge R) (more : Bool) (row : Row) → IsNextOf bytes faults size old new (answer_of (Ok more) new) → more ≡ true → row ≡ row_in new → GoesOn bytes old new row
goes_on bytes faults size old new more row next is same = subst (GoesOn bytes old new) (sym same) (rw is at next.some)
