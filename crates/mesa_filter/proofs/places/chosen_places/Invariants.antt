use Rattle.std.proofs.Common.{◌≡◌, ◌++◌, drop, map, true}
use Rattle.mesa_fold.specs.mesa_columns.Columns.{places_in}
use Rattle.mesa_filter.specs.Query.{are_places}
use Rattle.mesa_filter.proofs.places.chosen_places.Given as goal

-- the places so far and those of the names that are left are all
abbrev pub invariant-loop-name : goal.invariant-loop-name
invariant-loop-name g l = record {
  all : l.found.items ++ places_in (map g.C.Named.name_of l.columns) (drop l.name-index l.names) ≡ places_in (map g.C.Named.name_of l.columns) l.names;
  within : are_places l.columns l.found.items ≡ true;
}
