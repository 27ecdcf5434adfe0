use Rattle.std.proofs.Common.{◌+◌, ◌++◌, drop, sym, ◌∙◌, ap, arith}
use Rattle.mesa_model.specs.mesa_columns.Columns.{is_replace}
use Rattle.mesa_order.specs.Told.{kept_places}
use Rattle.mesa_order.proofs.KeptPlaces.{told_all, told_more, told_same}
use Rattle.mesa_order.proofs.telling.told_places.Goals as goal
use Rattle.mesa_order.proofs.telling.told_places.Goals.{then-not-is_replace+in_ok-push, else-not-is_replace}

pub places-init : goal.places-init
places-init c = ap (λ places. places ++ kept_places 0 c.args.columns.now) c.new-places.ensures.items

pub places-preserved : goal.places-preserved
places-preserved c =
    let columns = c.args.columns.now in
    let i = c.places.place in
    let column = c.index-columns-place.result in
    let own = ap is_replace (sym c.index-columns-place.is) ∙ sym c.is_replace.ensures in
    elim c.if-not-is_replace.branch [
      | then-not-is_replace+in_ok-push w ↦ told_more columns i column c.places.places.items c.if-not-is_replace.places.items _ (omega arith) (own ∙ w.if-not-is_replace.true) (ap (λ v. v.items) w.places-is ∙ w.in_ok-push.ensures.items) c.places.invariant
      | else-not-is_replace w ↦ ap (λ v. v.items ++ kept_places (i + 1) (drop (i + 1) columns)) w.places-is ∙ told_same columns i column c.places.places.items _ (omega arith) (own ∙ w.if-not-is_replace.false) c.places.invariant
    ]

pub returns : goal.returns
returns c = told_all c.args.columns.now c.places.place c.places.places.items _ (omega arith) c.places.invariant
