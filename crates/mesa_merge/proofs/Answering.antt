-- What a call of a merge answers, by what it says of the row that the merge then lends.
use Rattle.std.proofs.Common.{◌≡◌, ap, false}
use Rattle.std.specs.Prelude.{ℕ, List, Bool, Option, None, Result, Ok, Err, IfOk, IfErr}
use Rattle.std.specs.Bool.{then_some}
use Rattle.mesa_scan.specs.mesa_columns.declared.rows.Row.{Row}
use Rattle.mesa_delta.specs.declared.error.FileError.{FileError}
use Rattle.mesa_merge.specs.Calls.{answer_of}
use Rattle.mesa_merge.specs.Faults.{HaveFaultCause}
use Rattle.mesa_merge.specs.Merged.{row_in}
use Rattle.mesa_merge.specs.declared.merge.Merge.{Merge}

pub answered : {R : Type 0} (r : Result Bool FileError) (m : Merge R) (P : Option Row → Type 0) → IfOk r (λ more. P (then_some more (row_in m))) → IfOk (answer_of r m) P
answered (Ok more) m P h = h
answered (Err e) m P h = tt

pub answered_not : {R : Type 0} (r : Result Bool FileError) (m : Merge R) (P : FileError → Type 0) → IfErr r P → IfErr (answer_of r m) P
answered_not (Ok more) m P h = tt
answered_not (Err e) m P h = h

pub answered_none : {R : Type 0} (r : Result Bool FileError) (m : Merge R) → r ≡ Ok false → answer_of r m ≡ Ok None
answered_none r m e = ap (λ (q : Result Bool FileError). answer_of q m) e

pub answered_cause : {R : Type 0} (IsFault : FileError → Type 0) (before now : List ℕ) (r : Result Bool FileError) (m : Merge R) → HaveFaultCause IsFault before now r → HaveFaultCause IsFault before now (answer_of r m)
answered_cause IsFault before now (Ok more) m h = record { later = h.later; failed = tt; quiet = h.quiet; other = tt }
answered_cause IsFault before now (Err e) m h = record { later = h.later; failed = h.failed; quiet = tt; other = h.other }
