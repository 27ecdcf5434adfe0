use Rattle.std.proofs.Common.{◌∙◌, ◌++◌, ap, sym}
use Rattle.mesa_fold.specs.mesa_columns.declared.columns.KeyColumn.{KeyColumn}
use Rattle.mesa_filter.proofs.Joins.{first_joined, later_joined}
use Rattle.mesa_filter.proofs.PlacesAsked.{names_next, place_within}
use Rattle.mesa_filter.proofs.resuming.push_names.Goals as goal
use Rattle.mesa_filter.proofs.resuming.push_names.Goals.{then-i-gt0+in_ok-push, else-i-gt0}

pub loop-i-preserved : goal.loop-i-preserved
loop-i-preserved c =
    let column = c.index-columns-place.result in
    let names = names_next c.args.places.now c.args.columns.now c.loop-i.i column c.loop-i-test.true (place_within c.args.columns.now c.args.places.now c.loop-i.i c.requires c.loop-i-test.true) c.index-columns-place.is in
    let name = c.bytes.ensures.same ∙ ap (λ (k : KeyColumn). k.name) (sym c.index-columns-place.is) in
    elim c.if-i-gt0.branch [
      | then-i-gt0+in_ok-push w ↦
          later_joined c.loop-i.i c.loop-i.text.items c.if-i-gt0.text.items c.extend_from_slice.new.self.items column.name _ _ _ w.if-i-gt0.true names (ap (λ v. v.items) w.text-is ∙ w.in_ok-push.ensures.items) (c.in_ok-extend_from_slice.ensures.items ∙ ap (λ n. c.if-i-gt0.text.items ++ n) name) c.loop-i.invariant
      | else-i-gt0 w ↦
          first_joined c.loop-i.i c.loop-i.text.items c.extend_from_slice.new.self.items column.name _ _ _ w.if-i-gt0.false names (c.in_ok-extend_from_slice.ensures.items ∙ ap (λ n. c.if-i-gt0.text.items ++ n) name ∙ ap (λ v. v.items ++ column.name) w.text-is) c.loop-i.invariant
    ]
