use Rattle.std.proofs.Common.{◌∙◌, sym}
use Rattle.mesa_filter.proofs.PlacesAsked.{no_slot, replace_here, replace_later, replace_nowhere, slot_there}
use Rattle.mesa_filter.proofs.asking.first_replace.Goals as goal
use Rattle.mesa_filter.proofs.asking.first_replace.Goals.{in-Some+else-is_replace, in_default}

pub returns-then-is_replace : goal.returns-then-is_replace
returns-then-is_replace c =
    replace_here c.args.places.now c.args.columns.now c.loop-place.place-index c.in-Some.column.now _ c.loop-place-test.true (slot_there c.args.columns.now _ c.in-Some.column.now c.in-Some.ensures.lookup.0 c.in-Some.ensures.lookup.1) (sym c.is_replace.ensures ∙ c.if-is_replace.true) c.loop-place.invariant

pub loop-place-preserved : goal.loop-place-preserved
loop-place-preserved c = elim c.match-get.branch [
  | in-Some+else-is_replace w ↦ replace_later c.args.places.now c.args.columns.now c.loop-place.place-index w.in-Some.column.now _ c.loop-place-test.true (slot_there c.args.columns.now _ w.in-Some.column.now w.in-Some.ensures.lookup.0 w.in-Some.ensures.lookup.1) (sym w.is_replace.ensures ∙ w.if-is_replace.false) c.loop-place.invariant
  | in_default w ↦ replace_nowhere c.args.places.now c.args.columns.now c.loop-place.place-index _ c.loop-place-test.true (no_slot c.args.columns.now _ w.in_default.ensures.lookup.0) c.loop-place.invariant
]
