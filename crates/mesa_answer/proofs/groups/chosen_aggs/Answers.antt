use Rattle.std.proofs.Common.{◌∙◌, ap}
use Rattle.mesa_model.specs.mesa_columns.Columns.{aggs_of}
use Rattle.mesa_filter.proofs.PlacesAsked.{chosen_more, chosen_same}
use Rattle.mesa_answer.proofs.Picked.{agg_nowhere, agg_there}
use Rattle.mesa_answer.proofs.groups.chosen_aggs.Goals as goal
use Rattle.mesa_answer.proofs.groups.chosen_aggs.Goals.{in-Some+in_ok-push, in_default}

pub loop-place-preserved : goal.loop-place-preserved
loop-place-preserved c =
    let columns = c.args.schema.now.values in
    let listed = c.values-columns.result.now in
    let aggs = aggs_of c.args.schema.now in
    let same = c.values-columns.ensures.same in
    let place = c.loop-place.place-index in
    elim c.match-get.branch [
      | in-Some+in_ok-push w ↦
          chosen_more c.args.places.now aggs c.loop-place.found.items c.match-get.found.items _ place w.in-Some.column.now.agg c.loop-place-test.true
          (agg_there columns listed _ w.in-Some.column.now same w.in-Some.ensures.lookup.0 w.in-Some.ensures.lookup.1) (ap (λ v. v.items) w.found-is ∙ w.in_ok-push.ensures.items) c.loop-place.invariant
      | in_default w ↦
          chosen_same c.args.places.now aggs c.loop-place.found.items c.match-get.found.items _ place c.loop-place-test.true
          (agg_nowhere columns listed _ same w.in_default.ensures.lookup.0) (ap (λ v. v.items) w.found-is) c.loop-place.invariant
    ]
