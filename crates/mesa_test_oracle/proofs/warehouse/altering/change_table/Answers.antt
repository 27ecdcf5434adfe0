use Rattle.std.proofs.Common.{◌∙◌, ap, refl}
use Rattle.std.proofs.lemmas.Result.{err_from_is_err_and}
use Rattle.mesa_oracle_tables.specs.mesa_columns.declared.changes.ChangeError.TheVariants as change_error
use Rattle.mesa_binding.specs.Told.{change_failure}
use Rattle.mesa_test_oracle.proofs.warehouse.altering.change_table.Goals as goal

pub returns-in_err-column-clause-refused : goal.returns-in_err-column-clause-refused
returns-in_err-column-clause-refused c =
    let p = err_from_is_err_and c.from_residual.result c.from_residual.ensures.1 in
    rw (p.1, p.2) (change_error.Memory, refl, λ no. absurd (no refl))

pub returns-in-Err-clause-refused : goal.returns-in-Err-clause-refused
returns-in-Err-clause-refused c =
    let error = c.in-Err.error in
    (error, c.change_failure.ensures ∙ ap (λ n. change_failure n error) (c.in_ok-column.ensures ∙ c.changed_name.ensures), c.in-Err.ensures.refused)
