use Rattle.std.proofs.Common.{◌≡◌, ◌++◌, drop, map}
use Rattle.mesa_columns.specs.Columns.{chosen, places_in}
use Rattle.mesa_schema.proofs.choosing.chosen_columns.Given as goal

-- the columns so far and those of the names that are left are those of all names
abbrev pub invariant-loop-name : goal.invariant-loop-name
invariant-loop-name g l =
    let all = map g.C.Named.name_of l.columns in
    l.found.items ++ chosen (places_in all (drop l.name-index l.names)) l.columns ≡ chosen (places_in all l.names) l.columns
