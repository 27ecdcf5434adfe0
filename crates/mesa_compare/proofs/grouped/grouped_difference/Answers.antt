use Rattle.std.proofs.Common.{◌≡◌, List, map, refl, sym, ap, subst, ◌∙◌}
use Rattle.std.proofs.lemmas.Result.{err_from_is_err_and}
use Rattle.std.specs.Prelude.{Err, IsTrue, slice_get}
use Rattle.mesa_schema.specs.mesa_columns.declared.rows.Row.{Row}
use Rattle.mesa_schema.specs.Changes.{columns_of}
use Rattle.mesa_schema.specs.mesa_columns.Rows.{keys_rise}
use Rattle.mesa_schema.specs.Views.{view_key_places, view_rows, view_value_places}
use Rattle.mesa_examine.specs.mesa_scan.Cursors.{lift_by}
use Rattle.mesa_examine.specs.mesa_delta.declared.error.FileError.TheVariants.{Memory, Read}
use Rattle.mesa_compare.specs.Difference.{first_difference}
use Rattle.mesa_view.proofs.mesa_answer.Results.{if_err, if_ok}
use Rattle.mesa_view.proofs.Blocks.{if_some}
use Rattle.mesa_compare.proofs.Counting.{none_failed, one_failed, second_cause}
use Rattle.mesa_compare.proofs.grouped.grouped_difference.Goals as goal

pub returns-in-Err-clause-cause : goal.returns-in-Err-clause-cause
returns-in-Err-clause-cause g c = one_failed (λ e. e ≡ Read) _ _ _ _ _ c.in-Err.error refl refl c.in-Err.ensures.cause

pub returns-in-Err-clause-never : goal.returns-in-Err-clause-never
returns-in-Err-clause-never g c = λ d is b other all mine read indexed beside told keeps. c.in-Err.ensures.never d is b all read indexed keeps

pub returns-in_err-cursor-clause-cause : goal.returns-in_err-cursor-clause-cause
returns-in_err-cursor-clause-cause g c =
    let p = err_from_is_err_and c.from_residual.result c.from_residual.ensures.1 in
    rw (p.1, p.2) (none_failed (λ e. e ≡ Read) _ _ _ _ (Err Memory) c.in-Ok.ensures.cause.quiet refl (λ e. cc))

pub returns-clause-cause : goal.returns-clause-cause
returns-clause-cause g c = second_cause (λ e. e ≡ Read) _ _ _ _ c.listed_difference.result c.in-Ok.ensures.cause.quiet c.listed_difference.ensures.cause

pub returns-clause-never : goal.returns-clause-never
returns-clause-never g c = if_err c.listed_difference.result _ _ (λ e never d is b other all mine read indexed beside told keeps. never d is other mine beside told) c.listed_difference.ensures.never

pub returns-clause-difference : goal.returns-clause-difference
returns-clause-difference g c = if_ok c.listed_difference.result _ _ (λ o first b other all mine read indexed beside told.
    let l = c.args.table.now.evolving.value in
    let rows : List Row = map (lift_by c.args.table.now) all in
    if_some (slice_get l.views c.args.view) _ _ (λ v is.
    let same : c.as_slice.result.now ≡ view_rows (columns_of l) v rows = c.as_slice.ensures ∙ is in
    let rise : IsTrue (keys_rise (view_rows (columns_of l) v rows)) = c.groups_rise.ensures.rise (columns_of l) (view_key_places (columns_of l) v) (view_value_places (columns_of l) v) rows in
    first other mine (subst (λ (rs : List Row). IsTrue (keys_rise rs)) (sym same) rise) beside told ∙ ap (λ (rs : List Row). first_difference rs (map (lift_by c.args.own.now) mine)) same) (c.in-Ok.ensures.derived b all read indexed)) c.listed_difference.ensures.difference
