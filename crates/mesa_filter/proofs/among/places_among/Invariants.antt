use Rattle.std.proofs.Common.{◌≡◌, map, take}
use Rattle.mesa_filter.specs.Among.{place_among}
use Rattle.mesa_filter.proofs.among.places_among.Given as goal

-- the places so far
abbrev pub invariant-places : goal.invariant-places
invariant-places l = l.moved ≡ map (place_among l.among) (take l.place-index l.places)
