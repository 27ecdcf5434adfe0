use Rattle.std.proofs.Common.{◌≡◌, ◌+◌, drop, map}
use Rattle.mesa_digest.specs.Places.{label_at, place_among}
use Rattle.mesa_digest.proofs.ordering.place_in.Given as goal

-- those that were passed come before the place, and it is to be found among the others
abbrev pub invariant-others : goal.invariant-others
invariant-others l = record {
  count : l.passed ≡ l.other-index;
  among : place_among (label_at l.schema l.place) (map (label_at l.schema) l.order) ≡ l.passed + place_among (label_at l.schema l.place) (map (label_at l.schema) (drop l.other-index l.order));
}
