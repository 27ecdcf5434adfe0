-- Rows between two ends.
use Rattle.std.proofs.Common.{◌≡◌, ℕ, List, [], sym, ◌∙◌, ap, subst, get_or, true}
use Rattle.std.proofs.lemmas.Bool.{and_parts}
use Rattle.std.specs.Prelude.{Option, None, Some, Result}
use Rattle.mesa_scan.specs.mesa_columns.declared.rows.Row.{Row}
use Rattle.mesa_scan.specs.mesa_columns.Columns.{Columns, aggs_of}
use Rattle.mesa_scan.specs.mesa_fold.Folded.{folded}
use Rattle.mesa_delta.specs.declared.error.FileError.{FileError}
use Rattle.mesa_delta.specs.declared.input.Input.{Input}
use Rattle.mesa_scan.specs.declared.cursor.Cursor.{Cursor}
use Rattle.mesa_scan.specs.Cut.{cut, is_from, is_under, lies_in}
use Rattle.mesa_scan.proofs.Cutting.{cuts_fold, is_less}
use Rattle.mesa_merge.specs.Calls.{IsNextBetween, IsNextOf}
use Rattle.mesa_merge.specs.Hands.{IsPast, hands_of}
use Rattle.mesa_merge.specs.Inputs.{AreAll, AreTold, knowns_of, lifted_parts}
use Rattle.mesa_merge.specs.Merged.{AreBelow, HasEnded, HasMerged, hands_in, inputs_of}
use Rattle.mesa_merge.specs.Merging.{AreUpTo, IsMerging}
use Rattle.mesa_merge.specs.declared.merge.Merge.{Merge}
use Rattle.mesa_merge.proofs.Cases.{if_both, if_err, if_none2, if_ok, if_some}
use Rattle.mesa_merge.proofs.Ending.{all_at_end, givens_between}
use Rattle.mesa_merge.proofs.Stages.{upto_under}

-- no rows lie below each end
pub none_below : (high : Option (List ℕ)) → AreBelow high []
none_below None = tt
none_below (Some high) = tt

-- rows up to a key lie below each end that the key lies below
pub below_upto : (low high : Option (List ℕ)) (key : List ℕ) (rows : List Row) → lies_in low high key ≡ true → AreUpTo key rows → AreBelow high rows
below_upto low None key rows lies upto = tt
below_upto low (Some high) key rows lies upto = upto_under key high rows upto (is_less key high (and_parts (is_from low key) (is_under (Some high) key) lies).1)

-- where no row at hand is below the high end, and bytes are told, what was given folds to the rows of the fold between the ends
pub fold_between : {R : Type 0} (bytes : R → Option (List ℕ)) (low high : Option (List ℕ)) (s : Columns) (is : List (Input R)) (cs : List Cursor) (gs contents : List (List Row)) → IsMerging bytes low s is cs gs → ((j : ℕ) → AreBelow high (get_or gs j [])) → ((j : ℕ) → IsPast high (get_or (hands_of cs) j []))
    → AreTold (knowns_of bytes is) contents → folded (aggs_of s) gs ≡ cut low high (folded (aggs_of s) (lifted_parts (knowns_of bytes is) contents))
fold_between bytes low high s is cs gs contents m below past told =
    ap (folded (aggs_of s)) (givens_between bytes low high is cs gs contents m.given m.ready below past told) ∙ sym (cuts_fold (aggs_of s) low high (lifted_parts (knowns_of bytes is) contents))

-- a merge of whole files that has ended has given all
all_merged : {R : Type 0} (bytes : R → Option (List ℕ)) (s : Columns) (m : Merge R) (givens : List (List Row)) → HasMerged bytes s m givens → HasEnded m → AreAll (knowns_of bytes (inputs_of m)) givens
all_merged bytes s m givens h ended =
    let merging = h.merging ended.begun in
    all_at_end bytes m.inputs.items m.cursors.items givens merging.given merging.ready (λ j. subst (λ (end : Option (List ℕ)). IsPast end (get_or (hands_in m) j [])) h.end (ended.past j))

-- what a merge between ends answers, where it is one of whole files
pub next_whole : {R : Type 0} (bytes : R → Option (List ℕ)) (faults size : R → ℕ) (old new : Merge R) (answer : Result (Option Row) FileError) → IsNextBetween bytes faults size old new answer → IsNextOf bytes faults size old new answer
next_whole bytes faults size old new answer b = record {
  some = if_ok answer _ _ (λ o some. if_some o _ _ (λ row some s givens h. let n = some None None s givens h in (n.0, n.1, n.2, n.3, n.5)) some) b.some;
  none = if_both answer _ _ _ (λ o none ended. if_none2 o _ _ _ (λ none ended s givens h. let n = none None None s givens h in (n.0, all_merged bytes s new givens n.0 ended)) none ended) b.none b.ended;
  known = b.known;
  inputs = b.inputs;
  cause = b.cause;
  damaged = b.damaged;
  accepts = if_err answer _ _ (λ e accepts d is s givens h. accepts d is None None s givens h) b.accepts;
}
