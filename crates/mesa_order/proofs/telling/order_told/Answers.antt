use Rattle.std.proofs.Common.{length, ◌∙◌, ap, arith}
use Rattle.mesa_schema.specs.Changes.{columns_of}
use Rattle.mesa_model.specs.mesa_columns.Columns.{Columns}
use Rattle.mesa_schema.proofs.ViewSchemas.{few_columns}
use Rattle.mesa_model.specs.Orders.{choice}
use Rattle.mesa_order.specs.Told.{kept_places}
use Rattle.mesa_order.proofs.telling.order_told.Goals as goal

pub told_places-requires : goal.told_places-requires
told_places-requires c = omega (arith, ap length c.values.ensures.same, (few_columns c.present.result.now c.values.ensures.sound).1)

pub returns-clause-choice : goal.returns-clause-choice
returns-clause-choice c =
    let l = c.args.evolving.now in
    let columns = c.values.ensures.same ∙ ap (λ (t : Columns). t.values) c.present.ensures.columns in
    c.best_order.ensures.choice ∙ (λ i. choice (columns_of l) l.views ((c.deref.ensures.value ∙ c.in_ok-values.ensures ∙ ap (kept_places 0) columns) i) (c.terms.ensures.terms i))
