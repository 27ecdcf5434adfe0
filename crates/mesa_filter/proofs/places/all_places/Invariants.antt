use Rattle.std.proofs.Common.{◌≡◌, ◌++◌, drop, map, true}
use Rattle.std.specs.List.{enumerate_from}
use Rattle.mesa_filter.specs.Asked.{places_below}
use Rattle.mesa_filter.specs.Query.{are_places}
use Rattle.mesa_filter.proofs.places.all_places.Given as goal

-- the places so far and those of the columns that are left are all
abbrev pub invariant-loop-place : goal.invariant-loop-place
invariant-loop-place g l = record {
  all : l.places ++ map (λ p. p.0) (enumerate_from l.place (drop l.place l.columns)) ≡ places_below l.columns;
  within : are_places l.columns l.places ≡ true;
}
