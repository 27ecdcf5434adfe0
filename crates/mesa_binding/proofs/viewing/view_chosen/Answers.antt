use Rattle.std.proofs.Common.{◌∙◌, List, ℕ, ap, sym, subst}
use Rattle.std.proofs.lemmas.Result.{err_from_is_err_and}
use Rattle.mesa_list.specs.Checks.{◌>>◌, refused_as}
use Rattle.mesa_model.specs.mesa_columns.declared.views.ViewError.TheVariants as view
use Rattle.mesa_schema.specs.Changes.{columns_of}
use Rattle.mesa_model.specs.mesa_columns.Columns.{Columns, key_names}
use Rattle.mesa_schema.specs.Views.{choice_checked, chosen_values_checked}
use Rattle.mesa_model.specs.Refusals.{view_refusal}
use Rattle.mesa_binding.specs.Told.{IsDue}
use Rattle.mesa_binding.proofs.Viewings.{first_due, next_due}
use Rattle.mesa_binding.proofs.viewing.view_chosen.Goals as goal

pub returns-in_err-keys-clause-refused : goal.returns-in_err-keys-clause-refused
returns-in_err-keys-clause-refused c =
    let p = err_from_is_err_and c.from_residual.result c.from_residual.ensures.1 in
    let s : Columns = columns_of c.args.evolving.now in
    let words = c.args.words.now in
    let failure = c.in_err-keys.field-0.0 in
    let due = subst (λ (ws : List (List ℕ)). IsDue (refused_as view_refusal (choice_checked (key_names s) view.NoKey ws)) failure) c.as_slice.ensures c.in_err-keys.ensures.refused in
    rw (p.1, p.2) (first_due view_refusal (choice_checked (key_names s) view.NoKey words.keys) (chosen_values_checked s words.values) failure due)

pub returns-in_err-values-clause-refused : goal.returns-in_err-values-clause-refused
returns-in_err-values-clause-refused c =
    let p = err_from_is_err_and c.from_residual-in_err-values.result c.from_residual-in_err-values.ensures.1 in
    let s : Columns = columns_of c.args.evolving.now in
    let words = c.args.words.now in
    let failure = c.in_err-values.field-0.0 in
    let keys = ap (choice_checked (key_names s) view.NoKey) (sym c.as_slice.ensures) ∙ c.in_ok-keys.ensures.checked in
    let due = subst (λ (ws : List (List ℕ)). IsDue (refused_as view_refusal (chosen_values_checked s ws)) failure) c.as_slice-2.ensures c.in_err-values.ensures.refused in
    rw (p.1, p.2) (next_due view_refusal (choice_checked (key_names s) view.NoKey words.keys) (chosen_values_checked s words.values) failure keys due)

pub returns-clause-checked : goal.returns-clause-checked
returns-clause-checked c =
    let s : Columns = columns_of c.args.evolving.now in
    let keys = ap (choice_checked (key_names s) view.NoKey) (sym c.as_slice.ensures) ∙ c.in_ok-keys.ensures.checked in
    let values = ap (chosen_values_checked s) (sym c.as_slice-2.ensures) ∙ c.in_ok-values.ensures.checked in
    (λ j. keys j >> values j)
