use Rattle.mesa_filter.proofs.PlacesAsked.{chosen_more, chosen_same, no_slot, slot_there}
use Rattle.std.proofs.Common.{◌∙◌}
use Rattle.mesa_filter.proofs.query.kinds_at.Goals as goal
use Rattle.mesa_filter.proofs.query.kinds_at.Goals.{in-Some+in_ok-push, in_default}

pub loop-place-preserved : goal.loop-place-preserved
loop-place-preserved c = elim c.match-get.branch [
  | in-Some+in_ok-push w ↦ chosen_more c.args.places.now c.args.kinds.now c.loop-place.found c.match-get.found _ c.loop-place.place-index w.in-Some.kind.now c.loop-place-test.true (slot_there c.args.kinds.now _ w.in-Some.kind.now w.in-Some.ensures.lookup.0 w.in-Some.ensures.lookup.1) (w.found-is ∙ w.in_ok-push.ensures.ok) c.loop-place.invariant
  | in_default w ↦ chosen_same c.args.places.now c.args.kinds.now c.loop-place.found c.match-get.found _ c.loop-place.place-index c.loop-place-test.true (no_slot c.args.kinds.now _ w.in_default.ensures.lookup.0) w.found-is c.loop-place.invariant
]
