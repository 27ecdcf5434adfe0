-- A row more of a stream, or its end.
use Rattle.std.proofs.Common.{◌≡◌, ℕ, List, [], ◌∷◌, ◌++◌, refl, sym, ap, ◌∙◌, subst, true, false}
use Rattle.std.proofs.lemmas.List.{append-nil}
use Rattle.std.specs.Prelude.{Option, Some, None, IfSome, IfNone, IsTrue, Bool, not, option_map, option_to_list}
use Rattle.std.specs.Bool.{then_some}
use Rattle.mesa_schema.specs.mesa_columns.declared.rows.LentRow.{LentRow}
use Rattle.mesa_schema.specs.mesa_columns.declared.rows.Row.{Row}
use Rattle.mesa_schema.specs.mesa_columns.Columns.{Columns, aggs_of}
use Rattle.mesa_schema.specs.mesa_fold.Folded.{folded}
use Rattle.mesa_schema.specs.mesa_columns.Lent.{lent}
use Rattle.mesa_schema.specs.mesa_columns.Rows.{IsRowOf}
use Rattle.mesa_examine.specs.mesa_delta.declared.input.Input.{Input}
use Rattle.mesa_examine.specs.mesa_scan.Cursors.{HasGiven, IsAllOf}
use Rattle.mesa_examine.specs.mesa_scan.declared.cursor.Cursor.{Cursor}
use Rattle.mesa_merge.specs.Inputs.{AreAll, knowns_of}
use Rattle.mesa_merge.specs.Merged.{HasMerged, IsGoing, failed_of, inputs_of, last_in}
use Rattle.mesa_merge.specs.Sums.{IsLastOf}
use Rattle.mesa_merge.specs.declared.merge.Merge.{Merge}

if_none_from : {X : Type 0} (o : Option X) (P : Type 0) → P → IfNone o P
if_none_from None P p = p
if_none_from (Some x) P p = tt

-- a merge of whole files may go on
pub may_go_on : {R : Type 0} (bytes : R → Option (List ℕ)) (m : Merge R) (s : Columns) (givens : List (List Row)) → HasMerged bytes s m givens → IfNone (failed_of m) (IsGoing bytes m)
may_go_on bytes m s givens h = if_none_from (failed_of m) (IsGoing bytes m) (None, None, s, givens, h)

pub no_row : {X : Type 0} (more : Bool) (x : X) → IsTrue (not more) → then_some more x ≡ None
no_row true x end = cc
no_row false x end = refl

pub ended : {X : Type 0} (more : Bool) (x : X) → then_some more x ≡ None → IsTrue (not more)
ended true x none = cc
ended false x none = refl

-- a row is lent, where there is one
pub lent_some : (more : Bool) (r : LentRow) (row : Row) (o : Option LentRow) → o ≡ then_some more r → lent r ≡ row → option_map lent o ≡ then_some more row
lent_some true r row o is same = ap (option_map lent) is ∙ ap Some same
lent_some false r row o is same = ap (option_map lent) is

-- What a merge gives next: a row by which its fold grows, or its end.
pub record GoesOn {R : Type 0} (bytes : R → Option (List ℕ)) (s : Columns) (new : Merge R) (before : List Row) (row : Option Row) : Type 0 where
  pub after : List (List Row)
  pub merged : HasMerged bytes s new after
  pub grows : folded (aggs_of s) after ≡ before ++ option_to_list row
  pub ends : row ≡ None → AreAll (knowns_of bytes (inputs_of new)) after

pub goes_on : {R : Type 0} (bytes : R → Option (List ℕ)) (s : Columns) (old new : Merge R) (givens : List (List Row)) (row : Option Row) → HasMerged bytes s old givens
    → IfSome row (λ r. (s : Columns) (givens : List (List Row)) → HasMerged bytes s old givens → (after : List (List Row)) × HasMerged bytes s new after × (folded (aggs_of s) after ≡ folded (aggs_of s) givens ++ r ∷ []) × IsRowOf s r × IsLastOf r.key (last_in new) after)
    → IfNone row ((s : Columns) (givens : List (List Row)) → HasMerged bytes s old givens → HasMerged bytes s new givens × AreAll (knowns_of bytes (inputs_of new)) givens)
    → GoesOn bytes s new (folded (aggs_of s) givens) row
goes_on bytes s old new givens None h some none =
    let n = none s givens h in
    record { after = givens; merged = n.0; grows = sym (append-nil (folded (aggs_of s) givens)); ends = λ _. n.1 }
goes_on bytes s old new givens (Some r) h some none =
    let n = some s givens h in
    record { after = n.0; merged = n.1; grows = n.2; ends = λ e. cc }

-- and what an input gives next
pub record GivesOn {R : Type 0} (bytes : R → Option (List ℕ)) (new : Input R) (c : Cursor) (before : List Row) (row : Option Row) : Type 0 where
  pub given : HasGiven bytes new c (before ++ option_to_list row)
  pub ends : row ≡ None → IsAllOf bytes new (before ++ option_to_list row)

pub gives_on : {R : Type 0} (bytes : R → Option (List ℕ)) (old new : Input R) (was now : Cursor) (s : Columns) (before : List Row) (row : Option Row) → HasGiven bytes old was before
    → IfSome row (λ r. (given : List Row) → HasGiven bytes old was given → HasGiven bytes new now (given ++ r ∷ []) × IsRowOf s r)
    → IfNone row ((given : List Row) → HasGiven bytes old was given → HasGiven bytes new now given × IsAllOf bytes new given)
    → GivesOn bytes new now before row
gives_on bytes old new was now s before None h some none =
    let n = none before h in
    record { given = subst (HasGiven bytes new now) (sym (append-nil before)) n.0; ends = λ _. subst (IsAllOf bytes new) (sym (append-nil before)) n.1 }
gives_on bytes old new was now s before (Some r) h some none = record { given = (some before h).0; ends = λ e. cc }
