use Rattle.std.proofs.Common.{◌≡◌, [], ◌++◌, List, refl, sym, ap, subst, ◌∙◌}
use Rattle.std.proofs.lemmas.Result.{err_from_is_err_and}
use Rattle.std.specs.Bool.{then_some}
use Rattle.std.specs.Prelude.{Option, Some, None, Err, Ok, option_map, option_to_list}
use Rattle.mesa_schema.specs.mesa_columns.declared.rows.Row.{Row}
use Rattle.mesa_schema.specs.mesa_columns.Columns.{aggs_of}
use Rattle.mesa_schema.specs.mesa_fold.Folded.{folded, rows_of}
use Rattle.mesa_schema.specs.mesa_columns.Lent.{lent}
use Rattle.mesa_examine.specs.mesa_batch.Bound.{KeepsBound}
use Rattle.mesa_examine.specs.mesa_delta.declared.error.FileError.TheVariants.{Memory, Read}
use Rattle.mesa_merge.specs.Inputs.{AreTold, knowns_of, lifted_parts}
use Rattle.mesa_merge.specs.Merged.{inputs_of, row_in}
use Rattle.mesa_compare.specs.Difference.{first_difference}
use Rattle.mesa_compare.specs.Compared.{Shows}
use Rattle.mesa_compare.proofs.Counting.{failed_after, quiet_after}
use Rattle.mesa_compare.proofs.Differing.{differs, fold_of}
use Rattle.mesa_compare.proofs.Stepping.{GoesOn, goes_on, lent_some, may_go_on}
use Rattle.mesa_compare.proofs.merged.first_key.Goals as goal

pub next-requires-after_bounds : goal.next-requires-after_bounds
next-requires-after_bounds g c = λ _ _. may_go_on g.R.FileReader.bytes c.args.merge.now c.requires.0 c.requires.1 c.requires.2

-- ---- failed reads and damage

pub returns-in-Err-clause-cause : goal.returns-in-Err-clause-cause
returns-in-Err-clause-cause g c = failed_after (λ e. e ≡ Read) _ _ _ c.in-Err.error refl (c.in-Err.ensures.next c.requires.2.going).cause

pub returns-in-Err-clause-never : goal.returns-in-Err-clause-never
returns-in-Err-clause-never g c = λ d is s givens contents h told keeps. (c.in-Err.ensures.next h.going).accepts d is s givens h contents told keeps

pub returns-in-Err-clause-known : goal.returns-in-Err-clause-known
returns-in-Err-clause-known g c = (c.in-Err.ensures.next c.requires.2.going).known

pub finish_merge-requires-after_bounds : goal.finish_merge-requires-after_bounds
finish_merge-requires-after_bounds g c κs within =
    let answer = c.in-Ok.ensures.next c.requires.2.going in
    let on = goes_on g.R.FileReader.bytes c.requires.0 c.args.merge.now c.next.new.self c.requires.1 (then_some c.in-Ok.given (row_in c.next.new.self)) c.requires.2 answer.some answer.none in
    (c.requires.0, on.after, on.merged)

pub returns-in_err-finish_merge-clause-never : goal.returns-in_err-finish_merge-clause-never
returns-in_err-finish_merge-clause-never g c =
    let p = err_from_is_err_and c.from_residual-in_err-finish_merge.result c.from_residual-in_err-finish_merge.ensures.1 in
    let bytes = g.R.FileReader.bytes in
    rw (p.1, p.2) (λ d is s givens contents h told keeps.
    let answer = c.in-Ok.ensures.next h.going in
    let on = goes_on bytes s c.args.merge.now c.next.new.self givens (then_some c.in-Ok.given (row_in c.next.new.self)) h answer.some answer.none in
    c.in_err-finish_merge.ensures.never d is s on.after on.merged contents (subst (λ ks. AreTold ks contents) (sym answer.known) told)
    (subst (λ ks. KeepsBound (aggs_of s) [] (rows_of (lifted_parts ks contents))) (sym answer.known) keeps))

pub returns-in_err-finish_merge-clause-known : goal.returns-in_err-finish_merge-clause-known
returns-in_err-finish_merge-clause-known g c = c.in_err-finish_merge.ensures.known ∙ (c.in-Ok.ensures.next c.requires.2.going).known

pub returns-in_err-finish_merge-clause-cause : goal.returns-in_err-finish_merge-clause-cause
returns-in_err-finish_merge-clause-cause g c =
    let p = err_from_is_err_and c.from_residual-in_err-finish_merge.result c.from_residual-in_err-finish_merge.ensures.1 in
    rw (p.1, p.2) (failed_after (λ e. e ≡ Read) _ _ _ _ (c.in-Ok.ensures.next c.requires.2.going).cause.quiet c.in_err-finish_merge.ensures.cause)

pub returns-in_err-difference-clause-known : goal.returns-in_err-difference-clause-known
returns-in_err-difference-clause-known g c = (c.in-Ok.ensures.next c.requires.2.going).known

pub returns-in_err-difference-clause-cause : goal.returns-in_err-difference-clause-cause
returns-in_err-difference-clause-cause g c =
    let p = err_from_is_err_and c.from_residual.result c.from_residual.ensures.1 in
    rw (p.1, p.2) (quiet_after (λ e. e ≡ Read) _ _ (Err Memory) (c.in-Ok.ensures.next c.requires.2.going).cause.quiet (λ e. cc))

-- ---- the first row, and none

pub returns-clause-known : goal.returns-clause-known
returns-clause-known g c = c.in_ok-finish_merge.ensures.known ∙ (c.in-Ok.ensures.next c.requires.2.going).known

pub returns-clause-cause : goal.returns-clause-cause
returns-clause-cause g c = quiet_after (λ e. e ≡ Read) _ _ (Ok _) (c.in_ok-finish_merge.ensures.cause.quiet ∙ (c.in-Ok.ensures.next c.requires.2.going).cause.quiet) tt

pub returns-in_default-clause-known : goal.returns-in_default-clause-known
returns-in_default-clause-known g c = (c.in-Ok.ensures.next c.requires.2.going).known

pub returns-in_default-clause-cause : goal.returns-in_default-clause-cause
returns-in_default-clause-cause g c = quiet_after (λ e. e ≡ Read) _ _ (Ok _) (c.in-Ok.ensures.next c.requires.2.going).cause.quiet tt

pub returns-clause-difference : goal.returns-clause-difference
returns-clause-difference g c = λ s givens contents h nothing told.
    let bytes = g.R.FileReader.bytes in
    let row : Option Row = then_some c.in-Ok.given (row_in c.next.new.self) in
    let answer = c.in-Ok.ensures.next h.going in
    let on : GoesOn bytes s c.next.new.self (folded (aggs_of s) givens) row = goes_on bytes s c.args.merge.now c.next.new.self givens row h answer.some answer.none in
    let rest = c.in_ok-finish_merge.ensures.rest s on.after on.merged (λ t. absurd cc) in
    let parts : List (List Row) = lifted_parts (knowns_of bytes (inputs_of c.args.merge.now)) contents in
    let total : folded (aggs_of s) parts ≡ ([] ++ option_to_list row) ++ rest.1 =
    fold_of (aggs_of s) (knowns_of bytes (inputs_of c.args.merge.now)) (knowns_of bytes (inputs_of c.next.new.self)) rest.0 contents c.all_are_told.ensures answer.known rest.2 told
    ∙ rest.3 ∙ ap (λ (l : List Row). l ++ rest.1) (on.grows ∙ ap (λ (l : List Row). l ++ option_to_list row) nothing) in
    let lends : option_map lent c.then_some-one.result ≡ row = lent_some _ _ _ _ c.then_some-one.ensures c.row.ensures in
    let first : Shows c.in-Some.key (option_map lent c.then_some-one.result) None = rw c.in-Some.is at c.in_ok-difference.ensures.first in
    let shows : Shows c.in-Some.key row None = λ front rows others one other rises rise. first front rows others (one ∙ sym lends) other rises rise in
    let none : row ≡ None → rest.1 ≡ [] = λ e. (let no : first_difference [] [] ≡ Some c.in-Some.key = shows [] [] [] (sym e) refl refl refl in absurd cc) in
    differs [] row None rest.1 [] (folded (aggs_of s) parts) [] c.in-Some.key shows total none refl (λ e. refl) (c.folds_by_key.ensures.rise (aggs_of s) parts) refl

pub returns-in_default-clause-difference : goal.returns-in_default-clause-difference
returns-in_default-clause-difference g c = λ s givens contents h nothing told.
    let bytes = g.R.FileReader.bytes in
    let row : Option Row = then_some c.in-Ok.given (row_in c.next.new.self) in
    let answer = c.in-Ok.ensures.next h.going in
    let on : GoesOn bytes s c.next.new.self (folded (aggs_of s) givens) row = goes_on bytes s c.args.merge.now c.next.new.self givens row h answer.some answer.none in
    let lends : option_map lent c.then_some-one.result ≡ row = lent_some _ _ _ _ c.then_some-one.ensures c.row.ensures in
    let none : row ≡ None = sym lends ∙ (rw c.in_default.is at c.in_ok-difference.ensures.same) in
    let total : folded (aggs_of s) (lifted_parts (knowns_of bytes (inputs_of c.args.merge.now)) contents) ≡ [] =
    fold_of (aggs_of s) (knowns_of bytes (inputs_of c.args.merge.now)) (knowns_of bytes (inputs_of c.next.new.self)) on.after contents c.all_are_told.ensures answer.known (on.ends none) told
    ∙ on.grows ∙ (λ k. nothing k ++ option_to_list (none k)) in
    sym (c.same_rows_differ_nowhere.ensures.same []) ∙ (λ k. first_difference (sym total k) [])
