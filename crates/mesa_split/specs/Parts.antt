-- Parts of merged inputs.
use Rattle.std.specs.Prelude.{◌≡◌, ◌<◌, ◌≤◌, ℕ, zero, suc, List, [], ◌∷◌, length, map, slice_get, take, IfErr, IfOk, Result, Ok, Err, Option, None, Some, IsTrue}
use Rattle.std.specs.List.{AllByRecursion}
use Rattle.mesa_file.specs.declared.damage.Damage.{Damage}
use Rattle.mesa_compact.specs.mesa_columns.declared.rows.Row.{Row}
use Rattle.mesa_compact.specs.mesa_columns.Columns.{Columns, aggs_of}
use Rattle.mesa_open_files.specs.mesa_fold.Folded.{folded, rows_of}
use Rattle.mesa_compact.specs.mesa_columns.Rows.{AreRowsOf, keys_rise}
use Rattle.mesa_batch.specs.Bound.{KeepsBound}
use Rattle.mesa_delta.specs.declared.error.FileError.{FileError}
use Rattle.mesa_delta.specs.declared.error.FileError.TheVariants.{Damaged, Read}
use Rattle.mesa_delta.specs.declared.input.Input.{Input}
use Rattle.mesa_compact.specs.mesa_scan.Cursors.{IsInput}
use Rattle.mesa_compact.specs.mesa_scan.Cut.{cut, cuts_from, is_under, lies_in}
use Rattle.mesa_merge.specs.Damaged.{IsDamageOf}
use Rattle.mesa_merge.specs.Faults.{HaveFaultCause, faults_of}
use Rattle.mesa_merge.specs.Inputs.{AreTold, Known, knowns_of, lifted_parts}

-- Rows are a part of the fold of inputs: they have the columns' form, their keys rise and lie between two ends, and where the inputs' bytes are told, each the file of its index, they are the cut of the fold of these files' rows.
pub record IsPartOf (s : Columns) (low high : Option (List ℕ)) (knowns : List Known) (rows : List Row) : Type 0 where
  pub form : AreRowsOf s rows
  pub rise : IsTrue (keys_rise rows)
  pub within : AllByRecursion (λ (row : Row). IsTrue (lies_in low high row.key)) rows
  pub told : (contents : List (List Row)) → AreTold knowns contents → rows ≡ cut low high (folded (aggs_of s) (lifted_parts knowns contents))

-- the least key of the piece at a place: the cut before it, and for the first piece this end
abbrev pub low_at : Option (List ℕ) → List (List ℕ) → ℕ → Option (List ℕ)
low_at low keys zero = low
low_at low keys (suc i) = slice_get keys i

-- What came of the merge of inputs to rows of which this holds, by the inputs before and after: such rows, or why there are none.
pub record HasTried {R : Type 0} (bytes : R → Option (List ℕ)) (faults size : R → ℕ) (s : Columns) (Fits : List Row → Type 0) (old new : List (Input R)) (answer : Result (List Row) FileError) : Type 0 where
  pub rows : IfOk answer Fits
  -- The inputs stay the same, whatever is answered.
  pub known : knowns_of bytes new ≡ knowns_of bytes old
  pub inputs : AllByRecursion (IsInput bytes) new
  -- Each error has the cause that it has where files are merged whole.
  pub cause : HaveFaultCause (λ e. e ≡ Read) (faults_of faults old) (faults_of faults new) answer
  pub damaged : IfErr answer (λ e. (d : Damage) → e ≡ Damaged d → IsDamageOf bytes size new d)
  pub accepts : IfErr answer (λ e. (d : Damage) → e ≡ Damaged d → (contents : List (List Row)) → AreTold (knowns_of bytes old) contents
      → KeepsBound (aggs_of s) [] (rows_of (lifted_parts (knowns_of bytes old) contents)) → ⊥)

-- What came of the merge of inputs between two keys.
abbrev pub HasCut : {R : Type 0} → (R → Option (List ℕ)) → (R → ℕ) → (R → ℕ) → Columns → Option (List ℕ) → Option (List ℕ) → List (Input R) → List (Input R) → Result (List Row) FileError → Type 0
HasCut bytes faults size s low high old new answer = HasTried bytes faults size s (IsPartOf s low high (knowns_of bytes old)) old new answer

-- Rows are the piece at a place among those into which cuts divide the fold of inputs: one more than there are cuts, and none behind them.
abbrev pub IsPieceOf : Columns → List (List ℕ) → ℕ → List Known → List Row → Type 0
IsPieceOf s cuts at knowns rows = (at ≤ length cuts → IsPartOf s (low_at None cuts at) (slice_get cuts at) knowns rows) × (length cuts < at → rows ≡ [])

-- what came of the merge of that piece
abbrev pub HasPiece : {R : Type 0} → (R → Option (List ℕ)) → (R → ℕ) → (R → ℕ) → Columns → List (List ℕ) → ℕ → List (Input R) → List (Input R) → Result (List Row) FileError → Type 0
HasPiece bytes faults size s cuts at old new answer = HasTried bytes faults size s (IsPieceOf s cuts at (knowns_of bytes old)) old new answer

-- Rows are the first so many pieces, one after the other: they have the columns' form, their keys rise and lie below the next piece, and where the inputs' bytes are told, each the file of its index, they are the first parts of the fold of these files' rows.
pub record AreFirst (s : Columns) (cuts : List (List ℕ)) (at : ℕ) (knowns : List Known) (rows : List Row) : Type 0 where
  pub form : AreRowsOf s rows
  pub rise : IsTrue (keys_rise rows)
  pub under : AllByRecursion (λ (row : Row). IsTrue (is_under (low_at None cuts at) row.key)) rows
  pub none : at ≡ 0 → rows ≡ []
  pub told : (contents : List (List Row)) → AreTold knowns contents → rows ≡ rows_of (take at (cuts_from None cuts (folded (aggs_of s) (lifted_parts knowns contents))))

-- Lists of rows are the parts of the fold of inputs at these cuts, from this end on.
abbrev pub ArePartsOf : Columns → Option (List ℕ) → List (List ℕ) → List Known → List (List Row) → Type 0
ArePartsOf s low [] knowns [] = ⊥
ArePartsOf s low [] knowns (rows ∷ []) = IsPartOf s low None knowns rows
ArePartsOf s low [] knowns (rows ∷ next ∷ more) = ⊥
ArePartsOf s low (key ∷ keys) knowns [] = ⊥
ArePartsOf s low (key ∷ keys) knowns (rows ∷ more) = IsPartOf s low (Some key) knowns rows × ArePartsOf s (Some key) keys knowns more

-- the rows of a part; none where it has failed
abbrev pub gained : Result (List Row) FileError → List Row
gained (Ok rows) = rows
gained (Err e) = []

-- the rows of all parts, one part after the other
abbrev pub joined : List (Result (List Row) FileError) → List Row
joined answers = rows_of (map gained answers)
