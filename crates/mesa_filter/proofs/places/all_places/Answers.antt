use Rattle.std.proofs.Common.{◌∙◌, ◌++◌, ap, map, drop, ◌+◌, length}
use Rattle.std.specs.Prelude.{nat_lt}
use Rattle.std.specs.List.{enumerate_from}
use Rattle.std.proofs.lemmas.Bool.{lt-ltb}
use Rattle.mesa_filter.specs.Query.{are_places}
use Rattle.mesa_list.proofs.Lists.{all_pass_more}
use Rattle.mesa_filter.proofs.PlacesAsked.{one_place}
use Rattle.mesa_filter.proofs.places.all_places.Goals as goal

pub loop-place-preserved : goal.loop-place-preserved
loop-place-preserved g c = record {
  all = ap (λ ps. ps ++ map (λ p. p.0) (enumerate_from (c.loop-place.place + 1) (drop (c.loop-place.place + 1) c.args.columns.now))) c.in_ok-push.ensures.ok ∙ one_place c.loop-place.places c.args.columns.now c.loop-place.place _ c.loop-place-test.true c.loop-place.invariant.all;
  within = ap (are_places c.args.columns.now) c.in_ok-push.ensures.ok ∙ all_pass_more (λ place. nat_lt place (length c.args.columns.now)) c.loop-place.places c.loop-place.place c.loop-place.invariant.within (lt-ltb c.loop-place.place (length c.args.columns.now) c.loop-place-test.true);
}
