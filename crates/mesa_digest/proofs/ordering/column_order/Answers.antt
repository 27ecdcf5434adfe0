use Rattle.std.proofs.Common.{◌≡◌, ◌+◌, ◌<◌, length, map, sym, ◌∙◌, ap, subst, arith}
use Rattle.std.specs.List.{AllByRecursion, insert}
use Rattle.std.proofs.lemmas.List.{take_all}
use Rattle.mesa_digest.specs.Digests.{cells, in_order}
use Rattle.mesa_digest.specs.Places.{cell_at, count_of, label_at, place_among}
use Rattle.mesa_digest.proofs.Placing.{all_inserted, cells_count, order_more, wider}
use Rattle.mesa_digest.proofs.ordering.column_order.Goals as goal

pub places-preserved : goal.places-preserved
places-preserved c =
    let s = c.args.schema.now in
    let i = c.places.place in
    let order = c.places.order.items in
    let at : c.place_in-at.result ≡ place_among (label_at s i) (map (label_at s) order) = c.place_in-at.ensures.among ∙ ap (λ ps. place_among (label_at s i) (map (label_at s) ps)) c.deref.ensures.value in
    let here : c.insert.new.self.items ≡ insert order (place_among (label_at s i) (map (label_at s) order)) i = c.in_ok-insert.ensures.items ∙ ap (λ k. insert order k i) at in
    let less : i < count_of s = omega (arith, ap length c.keys.ensures.same, ap length c.values.ensures.same) in
    record {
      within = subst (AllByRecursion (λ p. p < i + 1)) (sym here) (all_inserted (i + 1) (place_among (label_at s i) (map (label_at s) order)) i order (omega arith) (wider i (i + 1) order (omega arith) c.places.invariant.within));
      columns = λ row form. ap (map (cell_at s row)) here ∙ order_more s order i row c.keys.ensures.sound form less c.places.invariant.within (c.places.invariant.columns row form);
    }

pub returns : goal.returns
returns c =
    let s = c.args.schema.now in
    let i = c.places.place in
    record {
      within = wider i (count_of s) c.places.order.items (omega (arith, ap length c.keys.ensures.same, ap length c.values.ensures.same)) c.places.invariant.within;
      columns = λ row form. c.places.invariant.columns row form
          ∙ ap in_order (take_all i (cells s row) (omega (arith, cells_count s row form, ap length c.keys.ensures.same, ap length c.values.ensures.same)));
    }
