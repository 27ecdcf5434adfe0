-- Rows that are collected from a merge between two ends.
use Rattle.std.proofs.Common.{◌≡◌, ◌<◌, ◌≤◌, ℕ, arith, length, List, [], ◌∷◌, ◌++◌, refl, sym, subst, ◌∙◌, true}
use Rattle.std.proofs.lemmas.Result.{IfOk-weaker}
use Rattle.std.specs.Prelude.{Bool, Err, IsTrue, None, Ok, Option, Result, slice_get}
use Rattle.std.specs.List.{AllByRecursion}
use Rattle.mesa_compact.specs.mesa_columns.declared.rows.Row.{Row}
use Rattle.mesa_compact.specs.mesa_columns.Columns.{Columns, aggs_of}
use Rattle.mesa_open_files.specs.mesa_fold.Folded.{folded}
use Rattle.mesa_compact.specs.mesa_columns.Rows.{IsRowOf}
use Rattle.mesa_delta.specs.declared.error.FileError.{FileError}
use Rattle.mesa_delta.specs.declared.error.FileError.TheVariants.{Damaged, Memory, Read}
use Rattle.mesa_delta.specs.declared.input.Input.{Input}
use Rattle.mesa_compact.specs.mesa_scan.Cursors.{IsInput}
use Rattle.mesa_compact.specs.mesa_scan.Cut.{lies_in}
use Rattle.mesa_merge.specs.Calls.{IsNextBetween, answer_of}
use Rattle.mesa_merge.specs.Faults.{HaveFaultCause, NoneFell, SomeRose}
use Rattle.mesa_merge.specs.Merged.{HasMergedBetween, row_in}
use Rattle.mesa_merge.specs.declared.merge.Merge.{Merge}
use Rattle.mesa_merge.proofs.Inputs.{none_fell}
use Rattle.mesa_split.specs.Parts.{HasCut, HasPiece, low_at}

-- want of memory, with which no count of faults changes
pub memory_caused : {T : Type 0} (before now : List ℕ) → now ≡ before → HaveFaultCause {T = T} {E = FileError} (λ e. e ≡ Read) before now (Err Memory)
memory_caused before now same = record {
  later = subst (NoneFell before) (sym same) (none_fell before);
  failed = λ (is : Memory ≡ Read). cc;
  quiet = tt;
  other = λ _. same;
}

-- inputs that were not read at all
pub not_read : {R : Type 0} (bytes : R → Option (List ℕ)) (faults size : R → ℕ) (s : Columns) (low high : Option (List ℕ)) (is : List (Input R)) → AllByRecursion (IsInput bytes) is → HasCut bytes faults size s low high is is (Err Memory)
not_read bytes faults size s low high is each = record {
  rows = tt;
  known = refl;
  inputs = each;
  cause = memory_caused _ _ refl;
  damaged = λ d (e : Memory ≡ Damaged d). cc;
  accepts = λ d (e : Memory ≡ Damaged d). cc;
}

-- rows, with which none does either
pub gained_cause : {T : Type 0} (before now : List ℕ) (v : T) → now ≡ before → HaveFaultCause {T = T} {E = FileError} (λ e. e ≡ Read) before now (Ok v)
gained_cause before now v same = record { later = subst (NoneFell before) (sym same) (none_fell before); failed = tt; quiet = same; other = tt }

-- rows between the cuts at a place are the piece there
pub piece_cut : {R : Type 0} (bytes : R → Option (List ℕ)) (faults size : R → ℕ) (s : Columns) (cuts : List (List ℕ)) (at place : ℕ) (old new : List (Input R)) (r : Result (List Row) FileError) → place ≡ at → place ≤ length cuts → HasCut bytes faults size s (low_at None cuts place) (slice_get cuts place) old new r → HasPiece bytes faults size s cuts at old new r
piece_cut bytes faults size s cuts at place old new r same le h = subst (λ n. HasPiece bytes faults size s cuts n old new r) same (record {
  rows = IfOk-weaker r _ _ (λ rows part. ((λ _. part), λ lt. absurd (omega (arith, le, lt)))) h.rows;
  known = h.known;
  inputs = h.inputs;
  cause = h.cause;
  damaged = h.damaged;
  accepts = h.accepts;
})

-- behind the last piece there is none
pub piece_none : {R : Type 0} (bytes : R → Option (List ℕ)) (faults size : R → ℕ) (s : Columns) (cuts : List (List ℕ)) (at : ℕ) (is : List (Input R)) (rows : List Row) → length cuts < at → rows ≡ [] → AllByRecursion (IsInput bytes) is → HasPiece bytes faults size s cuts at is is (Ok rows)
piece_none bytes faults size s cuts at is rows lt none each = record {
  rows = ((λ le. absurd (omega (arith, le, lt))), λ _. none);
  known = refl;
  inputs = each;
  cause = gained_cause _ _ rows refl;
  damaged = tt;
  accepts = tt;
}

-- an error that is handed on
pub failed_cause : {T U : Type 0} (first before now : List ℕ) (e : FileError) → before ≡ first → HaveFaultCause {T = T} {E = FileError} (λ x. x ≡ Read) before now (Err e) → HaveFaultCause {T = U} {E = FileError} (λ x. x ≡ Read) first now (Err e)
failed_cause first before now e same h = record {
  later = subst (λ ns. NoneFell ns now) same h.later;
  failed = λ is. subst (λ ns. SomeRose ns now) same (h.failed is);
  quiet = tt;
  other = λ never. h.other never ∙ same;
}

-- What a merge has given folds to this row more, which lies between its ends.
abbrev pub GoesBetween : {R : Type 0} → (R → Option (List ℕ)) → Merge R → Merge R → Row → Type 0
GoesBetween bytes old new row = (low high : Option (List ℕ)) (s : Columns) (givens : List (List Row)) → HasMergedBetween bytes low high s old givens
    → (after : List (List Row)) × HasMergedBetween bytes low high s new after × (folded (aggs_of s) after ≡ folded (aggs_of s) givens ++ row ∷ []) × IsRowOf s row × IsTrue (lies_in low high row.key)

pub goes_between : {R : Type 0} (bytes : R → Option (List ℕ)) (faults size : R → ℕ) (old new : Merge R) (more : Bool) (row : Row) → IsNextBetween bytes faults size old new (answer_of (Ok more) new) → more ≡ true → row ≡ row_in new → GoesBetween bytes old new row
goes_between bytes faults size old new more row next is same = subst (GoesBetween bytes old new) (sym same) (λ low high s givens h. (let more = (rw is at next.some) low high s givens h in (more.0, more.1, more.2, more.3, more.4)))

pub all_one_more : (P : Row → Type 0) (rows : List Row) (row : Row) → AllByRecursion P rows → P row → AllByRecursion P (rows ++ row ∷ [])
all_one_more P [] row all one = (one, tt)
all_one_more P (x ∷ xs) row all one = (all.0, all_one_more P xs row all.1 one)
