use Rattle.std.proofs.Common.{◌∙◌, List, ap, subst, map}
use Rattle.std.specs.List.{list_all}
use Rattle.std.proofs.lemmas.Result.{err_from_is_err_and}
use Rattle.mesa_list.specs.Checks.{refuse_unless}
use Rattle.mesa_model.specs.mesa_columns.declared.columns.ValueColumn.{ValueColumn}
use Rattle.mesa_schema.specs.Changes.{columns_of}
use Rattle.mesa_model.specs.mesa_columns.Columns.{Columns}
use Rattle.mesa_model.specs.mesa_columns.Names.{has_name}
use Rattle.mesa_model.specs.declared.replies.Refusal.TheVariants as no
use Rattle.mesa_binding.specs.Told.{IsDue}
use Rattle.mesa_binding.proofs.Viewings.{values_missing}
use Rattle.mesa_binding.proofs.viewing.chosen_values.Goals as goal

pub returns-in_err-names-clause-refused : goal.returns-in_err-names-clause-refused
returns-in_err-names-clause-refused c =
    let p = err_from_is_err_and c.from_residual.result c.from_residual.ensures.1 in
    let words = c.args.words.now in
    let failure = c.in_err-names.field-0.0 in
    let s : Columns = columns_of c.args.evolving.now in
    let same = c.values.ensures.same ∙ ap (λ (s : Columns). s.values) c.present.ensures.columns in
    let due = subst (λ (columns : List ValueColumn). IsDue (refuse_unless (list_all (λ word. has_name word (map (λ (column : ValueColumn). column.name) columns)) words) no.NoColumn) failure) same c.in_err-names.ensures.refused in
    rw (p.1, p.2) (values_missing s words failure due)
