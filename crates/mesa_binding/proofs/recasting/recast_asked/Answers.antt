use Rattle.std.proofs.Common.{◌∙◌, List, ℕ, ap, sym, subst, map}
use Rattle.std.specs.List.{list_all}
use Rattle.std.proofs.lemmas.Result.{err_from_is_err_and}
use Rattle.mesa_list.specs.Checks.{refuse_unless, refused_as}
use Rattle.mesa_model.specs.mesa_columns.declared.columns.ValueColumn.{ValueColumn}
use Rattle.mesa_model.specs.mesa_columns.declared.views.ViewError.TheVariants as view
use Rattle.mesa_schema.specs.Changes.{columns_of}
use Rattle.mesa_model.specs.mesa_columns.Columns.{Columns, key_names}
use Rattle.mesa_model.specs.mesa_columns.Names.{has_name}
use Rattle.mesa_schema.specs.Views.{choice_checked}
use Rattle.mesa_model.specs.declared.replies.Refusal.TheVariants as no
use Rattle.mesa_model.specs.Refusals.{view_refusal}
use Rattle.mesa_model.specs.Tables.{recast_asked}
use Rattle.mesa_binding.specs.Told.{IsDue}
use Rattle.mesa_binding.proofs.Recastings.{keys_due, values_due}
use Rattle.mesa_binding.proofs.recasting.recast_asked.Goals as goal

pub returns-in_err-keys-clause-refused : goal.returns-in_err-keys-clause-refused
returns-in_err-keys-clause-refused c =
    let p = err_from_is_err_and c.from_residual.result c.from_residual.ensures.1 in
    let l = c.args.evolving.now in
    let failure = c.in_err-keys.field-0.0 in
    let due = subst (λ (ws : List (List ℕ)). IsDue (refused_as view_refusal (choice_checked (key_names (columns_of l)) view.NoKey ws)) failure) c.as_slice.ensures c.in_err-keys.ensures.refused in
    rw (p.1, p.2) (keys_due l (recast_asked c.args.words.now) failure due)

pub returns-in_err-values-clause-refused : goal.returns-in_err-values-clause-refused
returns-in_err-values-clause-refused c =
    let p = err_from_is_err_and c.from_residual-in_err-values.result c.from_residual-in_err-values.ensures.1 in
    let l = c.args.evolving.now in
    let failure = c.in_err-values.field-0.0 in
    let keys = ap (choice_checked (key_names (columns_of l)) view.NoKey) (sym c.as_slice.ensures) ∙ c.in_ok-keys.ensures.checked in
    let same = c.values.ensures.same ∙ ap (λ (s : Columns). s.values) c.present.ensures.columns in
    let there = subst (λ (ws : List (List ℕ)). IsDue (refuse_unless (list_all (λ word. has_name word (map (λ (column : ValueColumn). column.name) c.values.result.now)) ws) no.NoColumn) failure) c.as_slice-2.ensures c.in_err-values.ensures.refused in
    let due = subst (λ (columns : List ValueColumn). IsDue (refuse_unless (list_all (λ word. has_name word (map (λ (column : ValueColumn). column.name) columns)) c.args.words.now.values) no.NoColumn) failure) same there in
    rw (p.1, p.2) (values_due l (recast_asked c.args.words.now) failure keys due)
