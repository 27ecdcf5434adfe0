use Rattle.std.proofs.Common.{◌≡◌, length, map, true}
use Rattle.mesa_list.specs.Split.{split_at}
use Rattle.mesa_filter.specs.Asked.{places_of}
use Rattle.mesa_filter.specs.Query.{are_places}
use Rattle.mesa_list.proofs.Lists.{ahead}
use Rattle.mesa_filter.proofs.places.named_places.Given as goal

-- the places so far and those of the names that are left are all
abbrev pub invariant-names : goal.invariant-names
invariant-names g l = record {
  read : ahead l.places (places_of (map g.N.Named.name_of l.columns) l.names) ≡ places_of (map g.N.Named.name_of l.columns) (split_at 59 l.words);
  within : are_places l.columns l.places ≡ true;
}

abbrev pub decreases-names : goal.decreases-names
decreases-names g l = length l.names
