use Rattle.std.proofs.Common.{◌≡◌, map}
use Rattle.std.specs.List.{All, range_with_len}
use Rattle.mesa_batch.specs.Heads.{IsSpot, place_of}
use Rattle.mesa_batch.proofs.spots.spots.Given as goal

-- the spots of the rows so far
abbrev pub invariant-places : goal.invariant-places
invariant-places l = record {
  places : map place_of l.spots.items ≡ range_with_len 0 l.place;
  spots : All (IsSpot l.rows) l.spots.items;
}
