-- What a call of a merge answers.
use Rattle.std.specs.Prelude.{◌≡◌, ℕ, List, [], ◌∷◌, ◌++◌, Bool, IsTrue, Option, None, Result, Ok, Err, IfOk, IfErr, IfSome, IfNone}
use Rattle.std.specs.Bool.{then_some}
use Rattle.std.specs.List.{AllByRecursion}
use Rattle.mesa_scan.specs.mesa_file.declared.damage.Damage.{Damage}
use Rattle.mesa_scan.specs.mesa_columns.declared.rows.Row.{Row}
use Rattle.mesa_scan.specs.mesa_columns.Columns.{Columns, aggs_of}
use Rattle.mesa_scan.specs.mesa_fold.Folded.{folded, rows_of}
use Rattle.mesa_scan.specs.mesa_columns.Rows.{IsRowOf}
use Rattle.mesa_batch.specs.Bound.{KeepsBound}
use Rattle.mesa_delta.specs.declared.error.FileError.{FileError}
use Rattle.mesa_delta.specs.declared.error.FileError.TheVariants.{Damaged, Read}
use Rattle.mesa_scan.specs.Cursors.{IsInput}
use Rattle.mesa_scan.specs.Cut.{cut, lies_in}
use Rattle.mesa_merge.specs.Damaged.{IsDamageOf}
use Rattle.mesa_merge.specs.Faults.{HaveFaultCause, faults_of}
use Rattle.mesa_merge.specs.Inputs.{AreAll, AreTold, knowns_of, lifted_parts}
use Rattle.mesa_merge.specs.Merged.{HasEnded, HasMerged, HasMergedBetween, high_of, inputs_of, last_in, row_in}
use Rattle.mesa_merge.specs.Sums.{IsLastOf}
use Rattle.mesa_merge.specs.declared.merge.Merge.{Merge}

-- What a call answers: the row that the merge then lends, none, or an error.
abbrev pub answer_of : {R : Type 0} → Result Bool FileError → Merge R → Result (Option Row) FileError
answer_of (Ok more) m = Ok (then_some more (row_in m))
answer_of (Err e) m = Err e

-- The answer of a merge of whole files that has not failed.
pub record IsNextOf {R : Type 0} (bytes : R → Option (List ℕ)) (faults size : R → ℕ) (old new : Merge R) (answer : Result (Option Row) FileError) : Type 0 where
  -- What was given folds to one row more, whose key the input that is kept is the newest to have given.
  pub some : IfOk answer (λ o. IfSome o (λ row. (s : Columns) (givens : List (List Row)) → HasMerged bytes s old givens
      → (after : List (List Row)) × HasMerged bytes s new after × (folded (aggs_of s) after ≡ folded (aggs_of s) givens ++ row ∷ []) × IsRowOf s row × IsLastOf row.key (last_in new) after))
  -- Or each input has given all of its rows.
  pub none : IfOk answer (λ o. IfNone o ((s : Columns) (givens : List (List Row)) → HasMerged bytes s old givens
      → HasMerged bytes s new givens × AreAll (knowns_of bytes (inputs_of new)) givens))
  -- The inputs stay the same, whatever is answered.
  pub known : knowns_of bytes (inputs_of new) ≡ knowns_of bytes (inputs_of old)
  pub inputs : AllByRecursion (IsInput bytes) (inputs_of old) → AllByRecursion (IsInput bytes) (inputs_of new)
  -- Read comes where a count of the readers rose. Damaged comes where a block isn't the recorded one or a sum would leave its type, and
  -- never where the inputs are the recorded files and the absolute values of each sum column of their lifted rows keep the bound.
  pub cause : HaveFaultCause (λ e. e ≡ Read) (faults_of faults (inputs_of old)) (faults_of faults (inputs_of new)) answer
  pub damaged : IfErr answer (λ e. (d : Damage) → e ≡ Damaged d → IsDamageOf bytes size (inputs_of new) d)
  pub accepts : IfErr answer (λ e. (d : Damage) → e ≡ Damaged d → (s : Columns) (givens : List (List Row)) → HasMerged bytes s old givens
      → (contents : List (List Row)) → AreTold (knowns_of bytes (inputs_of old)) contents → KeepsBound (aggs_of s) [] (rows_of (lifted_parts (knowns_of bytes (inputs_of old)) contents)) → ⊥)

-- The answer of a merge between two ends that has not failed.
pub record IsNextBetween {R : Type 0} (bytes : R → Option (List ℕ)) (faults size : R → ℕ) (old new : Merge R) (answer : Result (Option Row) FileError) : Type 0 where
  -- What was given folds to one row more, between the ends; the input that is kept is the newest to have given its key.
  pub some : IfOk answer (λ o. IfSome o (λ row. (low high : Option (List ℕ)) (s : Columns) (givens : List (List Row)) → HasMergedBetween bytes low high s old givens
      → (after : List (List Row)) × HasMergedBetween bytes low high s new after × (folded (aggs_of s) after ≡ folded (aggs_of s) givens ++ row ∷ []) × IsRowOf s row × IsTrue (lies_in low high row.key) × IsLastOf row.key (last_in new) after))
  -- Or no row is left; where the inputs' bytes are told, what was given folds to the rows of their fold between the ends.
  pub none : IfOk answer (λ o. IfNone o ((low high : Option (List ℕ)) (s : Columns) (givens : List (List Row)) → HasMergedBetween bytes low high s old givens
      → HasMergedBetween bytes low high s new givens × ((contents : List (List Row)) → AreTold (knowns_of bytes (inputs_of new)) contents → folded (aggs_of s) givens ≡ cut low high (folded (aggs_of s) (lifted_parts (knowns_of bytes (inputs_of new)) contents)))))
  -- From then on each call answers so.
  pub ended : IfOk answer (λ o. IfNone o (HasEnded new))
  pub stays : HasEnded old → answer ≡ Ok None
  -- The ends and the inputs stay the same, whatever is answered.
  pub high : high_of new ≡ high_of old
  pub known : knowns_of bytes (inputs_of new) ≡ knowns_of bytes (inputs_of old)
  pub inputs : AllByRecursion (IsInput bytes) (inputs_of old) → AllByRecursion (IsInput bytes) (inputs_of new)
  -- Read comes where a count of the readers rose. Damaged comes where a block isn't the recorded one, keys fall or a sum would leave its type, and
  -- never where the inputs are the recorded files and the absolute values of each sum column of their lifted rows keep the bound.
  pub cause : HaveFaultCause (λ e. e ≡ Read) (faults_of faults (inputs_of old)) (faults_of faults (inputs_of new)) answer
  pub damaged : IfErr answer (λ e. (d : Damage) → e ≡ Damaged d → IsDamageOf bytes size (inputs_of new) d)
  pub accepts : IfErr answer (λ e. (d : Damage) → e ≡ Damaged d → (low high : Option (List ℕ)) (s : Columns) (givens : List (List Row)) → HasMergedBetween bytes low high s old givens
      → (contents : List (List Row)) → AreTold (knowns_of bytes (inputs_of old)) contents → KeepsBound (aggs_of s) [] (rows_of (lifted_parts (knowns_of bytes (inputs_of old)) contents)) → ⊥)
