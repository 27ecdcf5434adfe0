use Rattle.std.proofs.Common.{◌≡◌, ◌≤◌, ◌+◌}
use Rattle.mesa_merge.proofs.Trees.{AreWinnersFrom}
use Rattle.mesa_merge.proofs.matches.first_winners.Given as goal

abbrev pub invariant-places : goal.invariant-places
invariant-places l = record {
  places : l.places ≡ l.count + l.count;
  at_most : l.place ≤ l.places;
  winners : AreWinnersFrom l.place l.count l.winners.items;
}

abbrev pub decreases-places : goal.decreases-places
decreases-places l = l.place
