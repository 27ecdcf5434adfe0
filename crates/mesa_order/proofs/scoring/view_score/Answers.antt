use Rattle.std.proofs.Common.{cond, map, sym, ◌∙◌, ap}
use Rattle.mesa_model.specs.mesa_columns.declared.columns.KeyColumn.{KeyColumn}
use Rattle.mesa_model.specs.mesa_columns.Columns.{places_in}
use Rattle.mesa_schema.specs.Views.{view_key_places}
use Rattle.mesa_model.specs.Orders.{leading}
use Rattle.mesa_order.proofs.scoring.view_score.Goals as goal

pub returns-then-not-is_candidate : goal.returns-then-not-is_candidate
returns-then-not-is_candidate c =
    let test = sym c.is_candidate.ensures ∙ c.if-not-is_candidate.true in
    sym (ap (λ b. cond b (leading c.args.terms.now (view_key_places c.args.table.now c.args.view.now)) 0) test)

pub returns : goal.returns
returns c =
    let test = sym c.is_candidate.ensures ∙ c.if-not-is_candidate.false in
    c.chosen_score.ensures ∙ (λ i. leading c.args.terms.now (places_in (map (λ (x : KeyColumn). x.name) (c.keys.ensures.same i)) (c.as_slice.ensures i)))
    ∙ sym (ap (λ b. cond b (leading c.args.terms.now (view_key_places c.args.table.now c.args.view.now)) 0) test)
