use Rattle.std.proofs.Common.{◌∙◌, ◌+◌, ap, drop, subst, sym}
use Rattle.std.proofs.lemmas.Result.{err_from_is_err_and}
use Rattle.mesa_batch.proofs.Fields.{cut}
use Rattle.mesa_file_records.specs.Bounds.{IsDue, parts_checked}
use Rattle.mesa_file_records.proofs.Steps.{due_first}
use Rattle.mesa_file_records.proofs.bounds.check_bounds.Goals as goal

pub returns-in_err-check_totals-clause-refused : goal.returns-in_err-check_totals-clause-refused
returns-in_err-check_totals-clause-refused g c =
    let p = err_from_is_err_and c.from_residual.result c.from_residual.ensures.1 in
    let k = c.args.catalog.now.catalogue in
    let parts = c.args.parts.now in
    let i = c.parts.part-index in
    let part = c.part-item.result in
    let here = cut parts i part c.parts-test.true c.part-item.is in
    rw (p.1, p.2) (subst (λ r. IsDue r c.in_err-check_totals.field-0.0) (sym (c.parts.invariant.same ∙ ap (parts_checked k) here)) (due_first k part (drop (i + 1) parts) c.in_err-check_totals.field-0.0 c.in_err-check_totals.ensures.refused))
