use Rattle.std.proofs.Common.{◌≡◌, ℕ, length, get_or, false, map, ◌∙◌, ap, arith}
use Rattle.mesa_model.specs.mesa_columns.declared.columns.ValueColumn.{ValueColumn}
use Rattle.mesa_model.specs.mesa_columns.Columns.{places_in}
use Rattle.mesa_schema.specs.Views.{view_value_places}
use Rattle.mesa_schema.proofs.ViewSchemas.{few_columns}
use Rattle.mesa_model.specs.Orders.{has_place}
use Rattle.mesa_order.proofs.Marks.{all_asked}
use Rattle.mesa_order.proofs.scoring.has_values.Goals as goal

pub marks-held-requires : goal.marks-held-requires
marks-held-requires c = omega (arith, ap length c.values.ensures.same, (few_columns c.args.table.now c.values.ensures.sound).1)

pub returns : goal.returns
returns c =
    let s = c.args.table.now in
    let v = c.args.view.now in
    let held = c.marks-held.result in
    let same : (p : ℕ) → get_or held p false ≡ has_place (view_value_places s v) p = λ p. c.marks-held.ensures p ∙ (λ i. has_place (places_in (map (λ (x : ValueColumn). x.name) (c.values.ensures.same i)) (c.as_slice.ensures i)) p) in
    c.are_marked.ensures ∙ all_asked held (view_value_places s v) c.args.values.now same
