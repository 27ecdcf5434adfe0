use Rattle.std.proofs.Common.{◌≡◌, ℕ, length, get_or, false, map, ◌∙◌, ap, arith}
use Rattle.std.specs.List.{list_all, range_with_len}
use Rattle.mesa_model.specs.mesa_columns.declared.columns.KeyColumn.{KeyColumn}
use Rattle.mesa_model.specs.mesa_columns.Columns.{places_in}
use Rattle.mesa_schema.specs.Views.{view_key_places}
use Rattle.mesa_schema.proofs.ViewSchemas.{few_columns}
use Rattle.mesa_model.specs.Orders.{has_place}
use Rattle.mesa_order.proofs.Marks.{all_below}
use Rattle.mesa_order.proofs.scoring.is_further_order.Goals as goal

pub marks-held-requires : goal.marks-held-requires
marks-held-requires c = omega (arith, ap length c.keys.ensures.same, (few_columns c.args.table.now c.keys.ensures.sound).0)

pub returns : goal.returns
returns c =
    let s = c.args.table.now in
    let v = c.args.view.now in
    let held = c.marks-held.result in
    let same : (p : ℕ) → get_or held p false ≡ has_place (view_key_places s v) p = λ p. c.marks-held.ensures p ∙ (λ i. has_place (places_in (map (λ (x : KeyColumn). x.name) (c.keys.ensures.same i)) (c.as_slice.ensures i)) p) in
    c.all_marked.ensures ∙ ap (λ n. list_all (λ place. get_or held place false) (range_with_len 0 n)) (ap length c.keys-2.ensures.same) ∙ all_below held (view_key_places s v) s.keys same
