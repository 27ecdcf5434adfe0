use Rattle.std.proofs.Common.{◌<◌, ◌^◌, ◌∙◌, ap, sym, subst, arith}
use Rattle.mesa_open_files.specs.mesa_columns.declared.rows.Row.{Row}
use Rattle.mesa_open_files.specs.mesa_columns.Lent.{lent}
use Rattle.mesa_open_files.specs.mesa_columns.Rows.{IsRowOf}
use Rattle.mesa_answer.specs.Gathering.{Wanted}
use Rattle.mesa_bench.proofs.answering.put_page.Goals as goal

pub put-requires-clause-form : goal.put-requires-clause-form
put-requires-clause-form c =
    let small : c.loop-number.number < 2 ^ 32 = omega (arith, c.loop-number-test.true, c.ranges.rows.fits) in
    let form = c.rows_have_form.ensures c.args.schema.now c.loop-number.number c.requires.columns small in
    subst (λ t. IsRowOf t (lent c.lend.result)) (sym (ap (λ (w : Wanted). w.schema) c.loop-number.invariant.wanted)) (subst (λ (r : Row). IsRowOf c.args.schema.now r) (sym (c.lend.ensures ∙ c.in_ok-row.ensures)) form)
