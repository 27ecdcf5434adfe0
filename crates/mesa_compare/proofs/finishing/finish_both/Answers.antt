use Rattle.std.proofs.Common.{◌≡◌, refl}
use Rattle.std.specs.Prelude.{Result, Ok, Err, OnOk}
use Rattle.std.proofs.lemmas.Result.{err_from_is_err_and}
use Rattle.mesa_view.proofs.mesa_answer.Results.{if_err}
use Rattle.mesa_examine.specs.mesa_delta.declared.error.FileError.TheVariants.{Read}
use Rattle.mesa_compare.proofs.Counting.{first_cause, several_failed}
use Rattle.mesa_compare.proofs.finishing.finish_both.Goals as goal

on_ok : {T E P : Type 0} (r : Result T E) → P → OnOk r P
on_ok (Ok x) p = p
on_ok (Err e) p = tt

pub returns-in_err-finish_merge-clause-cause : goal.returns-in_err-finish_merge-clause-cause
returns-in_err-finish_merge-clause-cause g c =
    let p = err_from_is_err_and c.from_residual.result c.from_residual.ensures.1 in
    rw (p.1, p.2) (several_failed (λ e. e ≡ Read) _ _ _ _ _ _ refl refl c.in_err-finish_merge.ensures.cause)

pub returns-in_err-finish_merge-clause-never : goal.returns-in_err-finish_merge-clause-never
returns-in_err-finish_merge-clause-never g c =
    let p = err_from_is_err_and c.from_residual.result c.from_residual.ensures.1 in
    rw (p.1, p.2) (λ d is s givens h contents b all told read indexed keeps. c.in_err-finish_merge.ensures.never d is s givens h contents told keeps)

pub returns-clause-rest : goal.returns-clause-rest
returns-clause-rest g c = on_ok c.finish_input.result c.in_ok-finish_merge.ensures.rest

pub returns-clause-cause : goal.returns-clause-cause
returns-clause-cause g c = first_cause (λ e. e ≡ Read) _ _ _ _ c.finish_input.result c.in_ok-finish_merge.ensures.cause.quiet c.finish_input.ensures.cause

pub returns-clause-never : goal.returns-clause-never
returns-clause-never g c = if_err c.finish_input.result _ _ (λ e never d is s givens h contents b all told read indexed keeps. never d is b all read indexed) c.finish_input.ensures.never
