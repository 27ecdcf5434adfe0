use Rattle.std.proofs.Common.{◌≡◌, ◌++◌, drop}
use Rattle.mesa_model.specs.mesa_columns.Columns.{chosen}
use Rattle.mesa_answer.proofs.hand.fill_values.Given as goal

-- the values so far and those at the places that are left are all
abbrev pub invariant-loop-place : goal.invariant-loop-place
invariant-loop-place l = l.found.items ++ chosen (drop l.place-index l.places) l.values ≡ chosen l.places l.values
