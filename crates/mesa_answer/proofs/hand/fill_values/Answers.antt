use Rattle.std.proofs.Common.{◌∙◌, rules, ap}
use mir.Val.{SFits}
use mir.Syntax.{w128}
use Rattle.std.proofs.lemmas.Int.{to_z-of_z}
use Rattle.mesa_filter.proofs.PlacesAsked.{chosen_more, chosen_same, no_slot, slot_there}
use Rattle.mesa_answer.proofs.hand.fill_values.Goals as goal
use Rattle.mesa_answer.proofs.hand.fill_values.Goals.{in-Some+in_ok-push, in_default}

pub loop-place-preserved : goal.loop-place-preserved
loop-place-preserved c = elim c.match-get.branch [
  | in-Some+in_ok-push w ↦
      let fits : SFits w128 w.in-Some.value.now = search rules in
      let more = simp to_z-of_z at (ap (λ v. v.items) w.found-is ∙ w.in_ok-push.ensures.items) in
      chosen_more c.args.places.now c.args.values.now c.loop-place.found.items c.match-get.found.items _ c.loop-place.place-index w.in-Some.value.now c.loop-place-test.true (slot_there c.args.values.now _ w.in-Some.value.now w.in-Some.ensures.lookup.0 w.in-Some.ensures.lookup.1) more c.loop-place.invariant
  | in_default w ↦ chosen_same c.args.places.now c.args.values.now c.loop-place.found.items c.match-get.found.items _ c.loop-place.place-index c.loop-place-test.true (no_slot c.args.values.now _ w.in_default.ensures.lookup.0) (ap (λ v. v.items) w.found-is) c.loop-place.invariant
]
