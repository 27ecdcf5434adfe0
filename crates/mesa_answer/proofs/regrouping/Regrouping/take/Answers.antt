use Rattle.std.proofs.Common.{◌≡◌, ◌∙◌, ap, sym, subst}
use Rattle.std.specs.List.{concat}
use Rattle.mesa_key.specs.Spelling.{columns_of}
use Rattle.mesa_model.specs.mesa_columns.declared.rows.Row.{Row}
use Rattle.mesa_model.specs.mesa_columns.Columns.{chosen}
use Rattle.mesa_model.specs.mesa_columns.Lent.{lent}
use Rattle.mesa_model.specs.mesa_columns.Rows.{IsRowOf}
use Rattle.mesa_schema.specs.Views.{view_columns, view_key_places, view_value_places}
use Rattle.mesa_answer.specs.Regrouping.{PlacesSeen, row_under}
use Rattle.mesa_model.proofs.mesa_fold.GroupKeys.{regrouped_form}
use Rattle.mesa_answer.proofs.Results.{on_ok}
use Rattle.mesa_answer.proofs.regrouping.Regrouping.take.Goals as goal

pub returns-clause-form : goal.returns-clause-form
returns-clause-form c =
    let row : Row = lent c.args.row in
    on_ok c.take.result _ _ (λ held s v seen form.
    let same : c.take.new.self ≡ row_under c.args.self.now row =
    held ∙ (λ i. record { key = concat (chosen (c.deref-2.ensures.value i) (columns_of (c.deref.ensures.value i) row.key)); values = chosen (c.deref-3.ensures.value i) row.values })
    ∙ ap (λ (p : PlacesSeen). row_under p row) c.self.view_is in
    subst (IsRowOf (view_columns s v)) (sym (same ∙ ap (λ (p : PlacesSeen). row_under p row) seen)) (regrouped_form s (view_key_places s v) (view_value_places s v) row form)) c.take.ensures
